use Rattle.std.proofs.Common.{arith}
use Rattle.std.proofs.lemmas.Int.{ints}
use Rattle.oas_keys.specs.Numbers.{place}
use Rattle.oas_keys.specs.Laws.NumberLaws.{place_is}
use Rattle.oas_keys.proofs.SignedLemmas.{placed, by_place}
use Rattle.oas_keys.proofs.front.long_signed_in_front.Goals as goal

pub long_in_front-at-requires-clause-stands : goal.long_in_front-at-requires-clause-stands
long_in_front-at-requires-clause-stands c =
    let r = c.requires in
    (place r.0, r.1, placed r.0 r.2, by_place r.0 _ r.1 r.3)

pub overflow_cast-result : goal.overflow_cast-result
overflow_cast-result c =
    let r = c.requires in
    let h = c.long_in_front-at.ensures (place r.0) r.1 (placed r.0 r.2) (by_place r.0 _ r.1 r.3) in
    omega (arith, ints, h.0, (place_is r.0 r.2).0, r.2.above, r.2.below)

pub overflow_sub-result : goal.overflow_sub-result
overflow_sub-result c =
    let r = c.requires in
    let h = c.long_in_front-at.ensures (place r.0) r.1 (placed r.0 r.2) (by_place r.0 _ r.1 r.3) in
    omega (arith, ints, h.0, (place_is r.0 r.2).0, r.2.above, r.2.below)

pub returns : goal.returns
returns c x rest step is =
    let h = c.long_in_front-at.ensures (place x) rest (placed x step) (by_place x _ rest is) in
    (omega (arith, ints, h.0, (place_is x step).0, step.above, step.below), h.1)
