use Rattle.std.proofs.Common.{◌≡◌, ◌∷◌, ◌++◌, ℕ, ◌-ℤ◌, List, length, get_or, sym, ap, ◌∙◌, arith}
use Rattle.oas_keys.specs.Keys.{points_key}
use Rattle.oas_keys.proofs.PartLemmas.{at_end, some_byte, goes_on, shorter}
use Rattle.oas_keys.proofs.cursor.Cursor.next_step.Goals as goal

pub bounds-left-0 : goal.bounds-left-0
bounds-left-0 c =
    let r = c.requires in
    let s = some_byte r.0 r.1 c.args.self.now r.2 r.3 r.4 r.5 in
    let e : length c.left.result.now ≡ length (s.0 ∷ s.1) = ap length (c.left.ensures ∙ s.2) in
    omega arith

pub returns-then-left-eq0-clause-next : goal.returns-then-left-eq0-clause-next
returns-then-left-eq0-clause-next c before ps rest from within is =
    let s = some_byte before ps c.args.self.now rest from within is in
    let zero : s.0 ≡ 0 = sym (ap (λ (xs : List ℕ). get_or xs 0 0) (c.left.ensures ∙ s.2)) ∙ c.if-left-eq0.true in
    let e = at_end before ps c.args.self.now rest s.1 s.0 from within is s.2 zero in
    (e.0, s.2 ∙ (λ i. zero i ∷ e.1 i))

pub signed_pair-requires : goal.signed_pair-requires
signed_pair-requires c =
    let r = c.requires in
    let g = goes_on r.0 r.1 c.left.result.now c.args.self.now r.2 c.left.ensures c.if-left-eq0.false r.3 r.4 r.5 in
    (g.point.x -ℤ r.0.x, g.point.y -ℤ r.0.y, points_key g.point g.points ++ r.2, g.dx, g.dy, g.is)

pub returns-clause-next : goal.returns-clause-next
returns-clause-next c before ps rest from within is =
    let g = goes_on before ps c.left.result.now c.args.self.now rest c.left.ensures c.if-left-eq0.false from within is in
    let pair = c.signed_pair.ensures _ _ _ g.dx g.dy g.is in
    (g.point, g.points, g.split, pair.0, pair.1, pair.2)

pub returns-clause-shorter : goal.returns-clause-shorter
returns-clause-shorter c =
    let r = c.requires in
    let g = goes_on r.0 r.1 c.left.result.now c.args.self.now r.2 c.left.ensures c.if-left-eq0.false r.3 r.4 r.5 in
    shorter r.0 r.1 c.args.self.now r.2 c.signed_pair.new.self g (c.signed_pair.ensures _ _ _ g.dx g.dy g.is).2
