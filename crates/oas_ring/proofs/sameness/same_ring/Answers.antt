use Rattle.oas_ring.specs.Readings.{reading_of}
use Rattle.oas_ring.specs.Laws.ReadingsLaws.{same_exactly_if_least}
use Rattle.oas_ring.proofs.sameness.same_ring.Goals as goal

pub returns-else-is_empty : goal.returns-else-is_empty
returns-else-is_empty c =
    let p = c.args.a.now in
    let q = c.args.b.now in
    let a = c.least_reading-in_a in
    let b = c.least_reading-in_b in
    let law = same_exactly_if_least p q (reading_of p a.result) (reading_of q b.result) a.ensures.least b.ensures.least in
    (λ t. law.1 (c.same_readings.ensures.0 t), λ s. c.same_readings.ensures.1 (law.0 s))
