use Rattle.std.proofs.Common.{sym, ◌∙◌, ap}
use Rattle.oas_ring.specs.Laws.ReadingsLaws.{least_of-is}
use Rattle.oas_ring.specs.Readings.{least_of, reading_of}
use Rattle.oas_elements.specs.Same.{normal_polygon}
use Rattle.oas_elements.proofs.kept.kept_ring.Goals as goal

pub returns-in-Some-clause-kept : goal.returns-in-Some-clause-kept
returns-in-Some-clause-kept c layer datatype =
    ap (normal_polygon layer datatype (least_of c.args.ring.now)) (sym c.in-Some.is ∙ c.drawn_box.ensures)

pub returns-in-None-clause-kept : goal.returns-in-None-clause-kept
returns-in-None-clause-kept c layer datatype =
    λ i. normal_polygon layer datatype (least_of-is c.args.ring.now (reading_of c.args.ring.now c.least_reading.result) c.least_reading.ensures.least i) ((sym c.in-None.is ∙ c.drawn_box.ensures) i)
