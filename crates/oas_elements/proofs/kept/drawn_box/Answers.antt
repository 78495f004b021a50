use Rattle.std.proofs.Common.{sym, ◌∙◌, ap}
use Rattle.oas_ring.specs.Laws.RectanglesLaws.{box_of-answer}
use Rattle.oas_elements.specs.Same.{drawn_box}
use Rattle.oas_elements.proofs.kept.drawn_box.Goals as goal

pub returns-in-Two : goal.returns-in-Two
returns-in-Two c =
    box_of-answer c.args.points.now c.as_box.result c.as_box.ensures.some c.as_box.ensures.none ∙ ap (λ p. drawn_box p c.args.points.now) (sym c.in-Two.is)
