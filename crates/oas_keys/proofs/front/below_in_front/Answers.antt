use Rattle.std.proofs.Common.{◌∙◌, arith}
use Rattle.std.proofs.lemmas.Int.{ints}
use Rattle.oas_keys.specs.Laws.NumberLaws.{place_is}
use Rattle.oas_keys.proofs.FirstLemmas.{first_below_two, first_below_three, first_below_four}
use Rattle.oas_keys.proofs.SignedLemmas.{signed_front}
use Rattle.oas_keys.proofs.front.below_in_front.Goals as goal

pub digits_of_two-digits-requires : goal.digits_of_two-digits-requires
digits_of_two-digits-requires c =
    let r = c.requires.stands in
    let long = (signed_front r.0 c.args.first _ _ r.1 c.args.bytes.now r.2 r.3 c.requires.first (first_below_two c.args.first c.if-first-ge-BELOW_TWO_BYTE.true c.requires.below)).long in
    omega arith

pub returns-then-first-ge-BELOW_TWO_BYTE : goal.returns-then-first-ge-BELOW_TWO_BYTE
returns-then-first-ge-BELOW_TWO_BYTE c x rest step is =
    let h = signed_front x c.args.first _ _ rest c.args.bytes.now step is c.requires.first (first_below_two c.args.first c.if-first-ge-BELOW_TWO_BYTE.true c.requires.below) in
    let d = c.digits_of_two-digits.ensures in
    (omega (arith, ints, h.number, d.number, d.small, (place_is x step).0, c.requires.below, c.if-first-ge-BELOW_TWO_BYTE.true), d.behind ∙ h.rest_is)

pub digits_of_three-digits-requires : goal.digits_of_three-digits-requires
digits_of_three-digits-requires c =
    let r = c.requires.stands in
    let long = (signed_front r.0 c.args.first _ _ r.1 c.args.bytes.now r.2 r.3 c.requires.first (first_below_three c.args.first c.if-first-ge-BELOW_THREE_BYTE.true (omega (arith, c.if-first-ge-BELOW_TWO_BYTE.false)))).long in
    omega arith

pub returns-then-first-ge-BELOW_THREE_BYTE : goal.returns-then-first-ge-BELOW_THREE_BYTE
returns-then-first-ge-BELOW_THREE_BYTE c x rest step is =
    let h = signed_front x c.args.first _ _ rest c.args.bytes.now step is c.requires.first (first_below_three c.args.first c.if-first-ge-BELOW_THREE_BYTE.true (omega (arith, c.if-first-ge-BELOW_TWO_BYTE.false))) in
    let d = c.digits_of_three-digits.ensures in
    (omega (arith, ints, h.number, d.number, d.small, (place_is x step).0, c.if-first-ge-BELOW_TWO_BYTE.false, c.if-first-ge-BELOW_THREE_BYTE.true), d.behind ∙ h.rest_is)

pub digits_of_four-digits-requires : goal.digits_of_four-digits-requires
digits_of_four-digits-requires c =
    let r = c.requires.stands in
    let long = (signed_front r.0 c.args.first _ _ r.1 c.args.bytes.now r.2 r.3 c.requires.first (first_below_four c.args.first c.if-first-ge-BELOW_FOUR_BYTE.true (omega (arith, c.if-first-ge-BELOW_THREE_BYTE.false)))).long in
    omega arith

pub returns-then-first-ge-BELOW_FOUR_BYTE : goal.returns-then-first-ge-BELOW_FOUR_BYTE
returns-then-first-ge-BELOW_FOUR_BYTE c x rest step is =
    let h = signed_front x c.args.first _ _ rest c.args.bytes.now step is c.requires.first (first_below_four c.args.first c.if-first-ge-BELOW_FOUR_BYTE.true (omega (arith, c.if-first-ge-BELOW_THREE_BYTE.false))) in
    let d = c.digits_of_four-digits.ensures in
    (omega (arith, ints, h.number, d.number, d.small, (place_is x step).0, c.if-first-ge-BELOW_THREE_BYTE.false, c.if-first-ge-BELOW_FOUR_BYTE.true), d.behind ∙ h.rest_is)
