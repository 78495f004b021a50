use Rattle.std.proofs.Common.{ℕ, List, ◌++◌, ap, ◌∙◌, w64, arith}
use Rattle.std.proofs.lemmas.Int.{ints, to_z-of_z}
use Rattle.oas_keys.specs.Numbers.{number_in, signed_classes, place}
use Rattle.oas_keys.specs.Laws.NumberLaws.{place_is}
use Rattle.oas_keys.proofs.PlaceLemmas.{below_two, below_three, below_four}
use Rattle.oas_keys.proofs.numbers.put_below.Goals as goal

pub returns-then-number-ge-LEAST_TWO-clause-items : goal.returns-then-number-ge-LEAST_TWO-clause-items
returns-then-number-ge-LEAST_TWO-clause-items c =
    let p = place_is c.args.number c.requires.step in
    let at = c.place_of-at.ensures ∙ ap place (to_z-of_z w64 c.args.number c.ranges.number) in
    c.put_two.ensures.items
    ∙ ap (λ (t : List ℕ). c.args.out.now.items ++ t)
    (below_two _ _ at (omega (arith, ints, p.0, c.if-number-ge-LEAST_TWO.true)) (omega (arith, ints, p.0, c.requires.below)))

pub returns-then-number-ge-LEAST_THREE-clause-items : goal.returns-then-number-ge-LEAST_THREE-clause-items
returns-then-number-ge-LEAST_THREE-clause-items c =
    let p = place_is c.args.number c.requires.step in
    let at = c.place_of-at.ensures ∙ ap place (to_z-of_z w64 c.args.number c.ranges.number) in
    c.put_three.ensures.items
    ∙ ap (λ (t : List ℕ). c.args.out.now.items ++ t)
    (below_three _ _ at (omega (arith, ints, p.0, c.if-number-ge-LEAST_THREE.true)) (omega (arith, ints, p.0, c.if-number-ge-LEAST_TWO.false)))

pub returns-then-number-ge-LEAST_FOUR-clause-items : goal.returns-then-number-ge-LEAST_FOUR-clause-items
returns-then-number-ge-LEAST_FOUR-clause-items c =
    let p = place_is c.args.number c.requires.step in
    let at = c.place_of-at.ensures ∙ ap place (to_z-of_z w64 c.args.number c.ranges.number) in
    c.put_four.ensures.items
    ∙ ap (λ (t : List ℕ). c.args.out.now.items ++ t)
    (below_four _ _ at (omega (arith, ints, p.0, c.if-number-ge-LEAST_FOUR.true)) (omega (arith, ints, p.0, c.if-number-ge-LEAST_THREE.false)))

pub returns-else-number-ge-LEAST_FOUR-clause-items : goal.returns-else-number-ge-LEAST_FOUR-clause-items
returns-else-number-ge-LEAST_FOUR-clause-items c =
    c.put_long.ensures.items
    ∙ ap (λ (n : ℕ). c.args.out.now.items ++ number_in signed_classes 1 n) (c.place_of-at.ensures ∙ ap place (to_z-of_z w64 c.args.number c.ranges.number))
