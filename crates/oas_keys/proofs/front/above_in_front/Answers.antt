use Rattle.std.proofs.Common.{◌∙◌, arith}
use Rattle.std.proofs.lemmas.Int.{ints}
use Rattle.oas_keys.specs.Laws.NumberLaws.{place_is}
use Rattle.oas_keys.proofs.FirstLemmas.{first_above_two, first_above_three, first_above_four}
use Rattle.oas_keys.proofs.SignedLemmas.{signed_front}
use Rattle.oas_keys.proofs.front.above_in_front.Goals as goal

pub digits_of_two-digits-requires : goal.digits_of_two-digits-requires
digits_of_two-digits-requires c =
    let r = c.requires.stands in
    let long = (signed_front r.0 c.args.first _ _ r.1 c.args.bytes.now r.2 r.3 c.requires.first (first_above_two c.args.first c.requires.above c.if-first-lt-ABOVE_THREE_BYTE.true)).long in
    omega arith

pub returns-then-first-lt-ABOVE_THREE_BYTE : goal.returns-then-first-lt-ABOVE_THREE_BYTE
returns-then-first-lt-ABOVE_THREE_BYTE c x rest step is =
    let h = signed_front x c.args.first _ _ rest c.args.bytes.now step is c.requires.first (first_above_two c.args.first c.requires.above c.if-first-lt-ABOVE_THREE_BYTE.true) in
    let d = c.digits_of_two-digits.ensures in
    (omega (arith, ints, h.number, d.number, d.small, (place_is x step).0, c.requires.above, c.if-first-lt-ABOVE_THREE_BYTE.true), d.behind ∙ h.rest_is)

pub digits_of_three-digits-requires : goal.digits_of_three-digits-requires
digits_of_three-digits-requires c =
    let r = c.requires.stands in
    let long = (signed_front r.0 c.args.first _ _ r.1 c.args.bytes.now r.2 r.3 c.requires.first (first_above_three c.args.first c.if-first-lt-ABOVE_THREE_BYTE.false c.if-first-lt-ABOVE_FOUR_BYTE.true)).long in
    omega arith

pub returns-then-first-lt-ABOVE_FOUR_BYTE : goal.returns-then-first-lt-ABOVE_FOUR_BYTE
returns-then-first-lt-ABOVE_FOUR_BYTE c x rest step is =
    let h = signed_front x c.args.first _ _ rest c.args.bytes.now step is c.requires.first (first_above_three c.args.first c.if-first-lt-ABOVE_THREE_BYTE.false c.if-first-lt-ABOVE_FOUR_BYTE.true) in
    let d = c.digits_of_three-digits.ensures in
    (omega (arith, ints, h.number, d.number, d.small, (place_is x step).0, c.if-first-lt-ABOVE_THREE_BYTE.false, c.if-first-lt-ABOVE_FOUR_BYTE.true), d.behind ∙ h.rest_is)

pub digits_of_four-digits-requires : goal.digits_of_four-digits-requires
digits_of_four-digits-requires c =
    let r = c.requires.stands in
    let long = (signed_front r.0 c.args.first _ _ r.1 c.args.bytes.now r.2 r.3 c.requires.first (first_above_four c.args.first c.if-first-lt-ABOVE_FOUR_BYTE.false c.if-first-lt-ABOVE_FIVE_BYTE.true)).long in
    omega arith

pub returns-then-first-lt-ABOVE_FIVE_BYTE : goal.returns-then-first-lt-ABOVE_FIVE_BYTE
returns-then-first-lt-ABOVE_FIVE_BYTE c x rest step is =
    let h = signed_front x c.args.first _ _ rest c.args.bytes.now step is c.requires.first (first_above_four c.args.first c.if-first-lt-ABOVE_FOUR_BYTE.false c.if-first-lt-ABOVE_FIVE_BYTE.true) in
    let d = c.digits_of_four-digits.ensures in
    (omega (arith, ints, h.number, d.number, d.small, (place_is x step).0, c.if-first-lt-ABOVE_FOUR_BYTE.false, c.if-first-lt-ABOVE_FIVE_BYTE.true), d.behind ∙ h.rest_is)
