use Rattle.std.proofs.Common.{◌≡◌, ◌++◌, ℕ, List, refl, ap, ◌∙◌, arith}
use Rattle.std.proofs.lemmas.List.{take_rest}
use Rattle.oas_keys.specs.Numbers.{number_in, unsigned_classes, unsigned_key}
use Rattle.oas_keys.specs.Laws.NumberLaws.{unsigned_is, unsigned_fit}
use Rattle.oas_keys.proofs.FirstLemmas.{front, headed, first_some, first_one, first_two, first_three, first_four}
use Rattle.oas_keys.proofs.front.unsigned_in_front.Goals as goal

-- what is there, for the classes
there : (n : ℕ) (bytes rest : List ℕ) → bytes ≡ unsigned_key n ++ rest → bytes ≡ number_in unsigned_classes 1 n ++ rest
there n bytes rest is = is ∙ ap (λ (t : List ℕ). t ++ rest) (unsigned_is n)

pub bounds-bytes-0 : goal.bounds-bytes-0
bounds-bytes-0 c =
    let r = c.requires in
    (headed unsigned_classes r.0 _ r.1 c.args.bytes.now (there r.0 _ r.1 r.3) refl).0

pub overflow_sub-result : goal.overflow_sub-result
overflow_sub-result c =
    let r = c.requires in
    first_some unsigned_classes r.0 _ r.1 c.args.bytes.now unsigned_fit r.2 (there r.0 _ r.1 r.3) c.from-first.ensures

pub returns-then-first-lt-TWO_BYTE : goal.returns-then-first-lt-TWO_BYTE
returns-then-first-lt-TWO_BYTE c n rest small is =
    let all = there n _ rest is in
    let some = first_some unsigned_classes n _ rest c.args.bytes.now unsigned_fit small all c.from-first.ensures in
    let h = front unsigned_classes n c.from-first.result _ _ rest c.args.bytes.now unsigned_fit small all c.from-first.ensures (first_one _ some c.if-first-lt-TWO_BYTE.true) in
    (omega (arith, h.number), take_rest c.args.bytes.now 1 ∙ h.rest_is)

pub digits_of_two-digits-requires : goal.digits_of_two-digits-requires
digits_of_two-digits-requires c =
    let r = c.requires in
    let long = (front unsigned_classes r.0 c.from-first.result _ _ r.1 c.args.bytes.now unsigned_fit r.2 (there r.0 _ r.1 r.3) c.from-first.ensures (first_two _ c.if-first-lt-TWO_BYTE.false c.if-first-lt-THREE_BYTE.true)).long in
    omega arith

pub returns-then-first-lt-THREE_BYTE : goal.returns-then-first-lt-THREE_BYTE
returns-then-first-lt-THREE_BYTE c n rest small is =
    let h = front unsigned_classes n c.from-first.result _ _ rest c.args.bytes.now unsigned_fit small (there n _ rest is) c.from-first.ensures (first_two _ c.if-first-lt-TWO_BYTE.false c.if-first-lt-THREE_BYTE.true) in
    let d = c.digits_of_two-digits.ensures in
    (omega (arith, h.number, d.number, d.small), d.behind ∙ h.rest_is)

pub digits_of_three-digits-requires : goal.digits_of_three-digits-requires
digits_of_three-digits-requires c =
    let r = c.requires in
    let long = (front unsigned_classes r.0 c.from-first.result _ _ r.1 c.args.bytes.now unsigned_fit r.2 (there r.0 _ r.1 r.3) c.from-first.ensures (first_three _ c.if-first-lt-THREE_BYTE.false c.if-first-lt-FOUR_BYTE.true)).long in
    omega arith

pub returns-then-first-lt-FOUR_BYTE : goal.returns-then-first-lt-FOUR_BYTE
returns-then-first-lt-FOUR_BYTE c n rest small is =
    let h = front unsigned_classes n c.from-first.result _ _ rest c.args.bytes.now unsigned_fit small (there n _ rest is) c.from-first.ensures (first_three _ c.if-first-lt-THREE_BYTE.false c.if-first-lt-FOUR_BYTE.true) in
    let d = c.digits_of_three-digits.ensures in
    (omega (arith, h.number, d.number, d.small), d.behind ∙ h.rest_is)

pub digits_of_four-digits-requires : goal.digits_of_four-digits-requires
digits_of_four-digits-requires c =
    let r = c.requires in
    let long = (front unsigned_classes r.0 c.from-first.result _ _ r.1 c.args.bytes.now unsigned_fit r.2 (there r.0 _ r.1 r.3) c.from-first.ensures (first_four _ c.if-first-lt-FOUR_BYTE.false c.if-first-lt-FIVE_BYTE.true)).long in
    omega arith

pub returns-then-first-lt-FIVE_BYTE : goal.returns-then-first-lt-FIVE_BYTE
returns-then-first-lt-FIVE_BYTE c n rest small is =
    let h = front unsigned_classes n c.from-first.result _ _ rest c.args.bytes.now unsigned_fit small (there n _ rest is) c.from-first.ensures (first_four _ c.if-first-lt-FOUR_BYTE.false c.if-first-lt-FIVE_BYTE.true) in
    let d = c.digits_of_four-digits.ensures in
    (omega (arith, h.number, d.number, d.small), d.behind ∙ h.rest_is)

pub long_in_front-requires-clause-stands : goal.long_in_front-requires-clause-stands
long_in_front-requires-clause-stands c = let r = c.requires in (r.0, r.1, r.2, there r.0 _ r.1 r.3)

pub returns : goal.returns
returns c n rest small is = c.long_in_front.ensures n rest small (there n _ rest is)

pub slice_bounds-result-count : goal.slice_bounds-result-count
slice_bounds-result-count c =
    let r = c.requires in
    let some = (headed unsigned_classes r.0 _ r.1 c.args.bytes.now (there r.0 _ r.1 r.3) c.from-first.ensures).0 in
    omega arith

pub slice_bounds-result-start : goal.slice_bounds-result-start
slice_bounds-result-start c =
    let r = c.requires in
    let some = (headed unsigned_classes r.0 _ r.1 c.args.bytes.now (there r.0 _ r.1 r.3) c.from-first.ensures).0 in
    omega arith
