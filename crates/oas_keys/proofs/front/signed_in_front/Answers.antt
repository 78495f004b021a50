use Rattle.std.proofs.Common.{◌∙◌, arith}
use Rattle.std.proofs.lemmas.List.{take_rest}
use Rattle.std.proofs.lemmas.Int.{ints}
use Rattle.oas_keys.specs.Laws.NumberLaws.{place_is}
use Rattle.oas_keys.proofs.FirstLemmas.{first_about}
use Rattle.oas_keys.proofs.SignedLemmas.{signed_some, signed_front}
use Rattle.oas_keys.proofs.front.signed_in_front.Goals as goal

pub bounds-bytes-0 : goal.bounds-bytes-0
bounds-bytes-0 c = signed_some c.requires.0 c.args.bytes.now c.requires.1 c.requires.3

pub returns-then-first-lt-ABOVE_TWO_BYTE : goal.returns-then-first-lt-ABOVE_TWO_BYTE
returns-then-first-lt-ABOVE_TWO_BYTE c x rest step is =
    let h = signed_front x c.from-first.result _ _ rest c.args.bytes.now step is c.from-first.ensures (first_about _ c.if-first-lt-ONE_BYTE.false c.if-first-lt-ABOVE_TWO_BYTE.true) in
    (omega (arith, ints, h.number, (place_is x step).0, c.if-first-lt-ONE_BYTE.false, c.if-first-lt-ABOVE_TWO_BYTE.true), take_rest c.args.bytes.now 1 ∙ h.rest_is)
