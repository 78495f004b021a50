use Rattle.std.proofs.Common.{◌≡◌, ◌∷◌, ◌++◌, ◌-ℤ◌, length, refl, ap, arith}
use Rattle.oas_keys.specs.Numbers.{signed_key}
use Rattle.oas_keys.specs.Keys.{points_key}
use Rattle.oas_keys.proofs.PartLemmas.{ended, some_byte, goes_on, shorter}
use Rattle.oas_keys.proofs.points.points_in_front.Goals as goal

pub loop-left-init : goal.loop-left-init
loop-left-init c = record {
  each = λ before ps rest from within is. record { before = before; qs = ps; rest = rest; from = from; within = within; is = is; sum = omega arith };
  few = omega arith;
}

pub bounds-left-0 : goal.bounds-left-0
bounds-left-0 c =
    let e = let r = c.requires in c.loop-left.invariant.each r.0 r.1 r.2 r.3 r.4 r.5 in
    let s = some_byte e.before e.qs c.loop-left.left.now e.rest e.from e.within e.is in
    let some : length c.loop-left.left.now ≡ length (s.0 ∷ s.1) = ap length s.2 in
    omega arith

pub behind_signed-requires : goal.behind_signed-requires
behind_signed-requires c =
    let e = let r = c.requires in c.loop-left.invariant.each r.0 r.1 r.2 r.3 r.4 r.5 in
    let g = goes_on e.before e.qs c.loop-left.left.now c.loop-left.left.now e.rest refl c.loop-left-test.true e.from e.within e.is in
    (g.point.x -ℤ e.before.x, signed_key (g.point.y -ℤ e.before.y) ++ (points_key g.point g.points ++ e.rest), g.dx, g.is)

pub behind_signed-left-requires : goal.behind_signed-left-requires
behind_signed-left-requires c =
    let e = let r = c.requires in c.loop-left.invariant.each r.0 r.1 r.2 r.3 r.4 r.5 in
    let g = goes_on e.before e.qs c.loop-left.left.now c.loop-left.left.now e.rest refl c.loop-left-test.true e.from e.within e.is in
    (g.point.y -ℤ e.before.y, points_key g.point g.points ++ e.rest, g.dy, c.behind_signed.ensures _ _ g.dx g.is)

pub overflow_add-count : goal.overflow_add-count
overflow_add-count c =
    let e = let r = c.requires in c.loop-left.invariant.each r.0 r.1 r.2 r.3 r.4 r.5 in
    let s = some_byte e.before e.qs c.loop-left.left.now e.rest e.from e.within e.is in
    let some : length c.loop-left.left.now ≡ length (s.0 ∷ s.1) = ap length s.2 in
    omega (arith, c.loop-left.invariant.few)

pub loop-left-smaller : goal.loop-left-smaller
loop-left-smaller c =
    let e = let r = c.requires in c.loop-left.invariant.each r.0 r.1 r.2 r.3 r.4 r.5 in
    let g = goes_on e.before e.qs c.loop-left.left.now c.loop-left.left.now e.rest refl c.loop-left-test.true e.from e.within e.is in
    shorter e.before e.qs c.loop-left.left.now e.rest _ g (c.behind_signed-left.ensures _ _ g.dy (c.behind_signed.ensures _ _ g.dx g.is))

pub loop-left-preserved : goal.loop-left-preserved
loop-left-preserved c = record {
  each = λ before ps rest from within is.
      let e = c.loop-left.invariant.each before ps rest from within is in
      let g = goes_on e.before e.qs c.loop-left.left.now c.loop-left.left.now e.rest refl c.loop-left-test.true e.from e.within e.is in
      record {
        before = g.point;
        qs = g.points;
        rest = e.rest;
        from = g.inside;
        within = g.within;
        is = c.behind_signed-left.ensures _ _ g.dy (c.behind_signed.ensures _ _ g.dx g.is);
        sum = omega (arith, e.sum, ap length g.split);
      };
  few =
      let e = let r = c.requires in c.loop-left.invariant.each r.0 r.1 r.2 r.3 r.4 r.5 in
      let g = goes_on e.before e.qs c.loop-left.left.now c.loop-left.left.now e.rest refl c.loop-left-test.true e.from e.within e.is in
      let less = shorter e.before e.qs c.loop-left.left.now e.rest _ g (c.behind_signed-left.ensures _ _ g.dy (c.behind_signed.ensures _ _ g.dx g.is)) in
      omega (arith, c.loop-left.invariant.few, less);
}

pub returns : goal.returns
returns c = λ before ps rest from within is.
    let e = c.loop-left.invariant.each before ps rest from within is in
    omega (arith, e.sum, ap length (ended e.before e.qs c.loop-left.left.now c.loop-left.left.now e.rest refl c.loop-left-test.false e.from e.within e.is))
