use Rattle.std.proofs.Common.{◌≡◌, ◌++◌, ◌∙◌, ap, w64, ℤ, ◌-ℤ◌, to_z, of_z, arith}
use Rattle.std.proofs.lemmas.Int.{ints}
use Rattle.oas_keys.specs.Numbers.{signed_key}
use Rattle.oas_keys.specs.Laws.FieldLaws.{parts, coordinate_bounds}
use Rattle.oas_keys.proofs.fields.put_step.Goals as goal

pub put_signed_pair-requires-clause-first : goal.put_signed_pair-requires-clause-first
put_signed_pair-requires-clause-first c =
    let p = coordinate_bounds c.args.point.x (parts c.args.point c.requires.to).0 in
    let q = coordinate_bounds c.args.before.x (parts c.args.before c.requires.from).0 in
    record { above = omega (arith, ints, p.0, p.1, q.0, q.1); below = omega (arith, ints, p.0, p.1, q.0, q.1) }

pub put_signed_pair-requires-clause-second : goal.put_signed_pair-requires-clause-second
put_signed_pair-requires-clause-second c =
    let p = coordinate_bounds c.args.point.y (parts c.args.point c.requires.to).1 in
    let q = coordinate_bounds c.args.before.y (parts c.args.before c.requires.from).1 in
    record { above = omega (arith, ints, p.0, p.1, q.0, q.1); below = omega (arith, ints, p.0, p.1, q.0, q.1) }

pub returns-clause-items : goal.returns-clause-items
returns-clause-items c =
    let p = coordinate_bounds c.args.point.x (parts c.args.point c.requires.to).0 in
    let q = coordinate_bounds c.args.before.x (parts c.args.before c.requires.from).0 in
    let r = coordinate_bounds c.args.point.y (parts c.args.point c.requires.to).1 in
    let s = coordinate_bounds c.args.before.y (parts c.args.before c.requires.from).1 in
    let x : to_z w64 (of_z w64 (to_z w64 (of_z w64 c.args.point.x) -ℤ to_z w64 (of_z w64 c.args.before.x))) ≡ c.args.point.x -ℤ c.args.before.x =
    omega (arith, ints, p.0, p.1, q.0, q.1) in
    let y : to_z w64 (of_z w64 (to_z w64 (of_z w64 c.args.point.y) -ℤ to_z w64 (of_z w64 c.args.before.y))) ≡ c.args.point.y -ℤ c.args.before.y =
    omega (arith, ints, r.0, r.1, s.0, s.1) in
    c.put_signed_pair.ensures.items
    ∙ ap (λ (z : ℤ). c.args.out.now.items ++ (signed_key z ++ signed_key (to_z w64 (of_z w64 (to_z w64 (of_z w64 c.args.point.y) -ℤ to_z w64 (of_z w64 c.args.before.y)))))) x
    ∙ ap (λ (z : ℤ). c.args.out.now.items ++ (signed_key (c.args.point.x -ℤ c.args.before.x) ++ signed_key z)) y
