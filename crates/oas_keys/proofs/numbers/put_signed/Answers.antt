use Rattle.std.proofs.Common.{ℕ, ℤ, List, ◌++◌, sym, ap, ◌∙◌, w64, arith}
use Rattle.std.proofs.lemmas.Int.{ints, to_z-of_z}
use Rattle.oas_keys.specs.Numbers.{number_in, signed_classes, place}
use Rattle.oas_keys.specs.Laws.NumberLaws.{place_is, signed_is}
use Rattle.oas_keys.proofs.PlaceLemmas.{about}
use Rattle.oas_keys.proofs.numbers.put_signed.Goals as goal

pub returns-then-number-lt-LEAST_ONE-clause-items : goal.returns-then-number-lt-LEAST_ONE-clause-items
returns-then-number-lt-LEAST_ONE-clause-items c =
    c.put_below.ensures.items
    ∙ ap (λ (x : ℤ). c.args.out.now.items ++ number_in signed_classes 1 (place x)) (to_z-of_z w64 c.args.number c.ranges.number)
    ∙ ap (λ (t : List ℕ). c.args.out.now.items ++ t) (sym (signed_is c.args.number))

pub returns-then-number-lt-LEAST_ABOVE_TWO-clause-items : goal.returns-then-number-lt-LEAST_ABOVE_TWO-clause-items
returns-then-number-lt-LEAST_ABOVE_TWO-clause-items c =
    let p = place_is c.args.number c.requires.step in
    let low = c.if-number-lt-LEAST_ONE.false in
    let high = c.if-number-lt-LEAST_ABOVE_TWO.true in
    about (place c.args.number) _ _ _ c.push_reserved.ensures.items (omega (arith, ints, p.0, low)) (omega (arith, ints, p.0, high)) (omega (arith, ints, p.0, low, high))
    ∙ ap (λ (t : List ℕ). c.args.out.now.items ++ t) (sym (signed_is c.args.number))

pub returns-else-number-lt-LEAST_ABOVE_TWO-clause-items : goal.returns-else-number-lt-LEAST_ABOVE_TWO-clause-items
returns-else-number-lt-LEAST_ABOVE_TWO-clause-items c =
    c.put_above.ensures.items
    ∙ ap (λ (x : ℤ). c.args.out.now.items ++ number_in signed_classes 1 (place x)) (to_z-of_z w64 c.args.number c.ranges.number)
    ∙ ap (λ (t : List ℕ). c.args.out.now.items ++ t) (sym (signed_is c.args.number))
