use Rattle.std.proofs.Common.{List, ap, ◌∙◌, arith}
use Rattle.oas_elements.specs.Contents.{Cell, expanded}
use Rattle.oas_elements.specs.Meaning.{cells_weight}
use Rattle.oas_layout.proofs.layout.Layout.weight.Goals as goal

pub cells_weight-requires : goal.cells_weight-requires
cells_weight-requires c =
    omega (arith, ap (λ (cs : List Cell). cells_weight (expanded cs)) c.cells.ensures.cells, c.cells.ensures.layout.light, c.cells.ensures.layout.limits.light)

pub returns-clause-weight : goal.returns-clause-weight
returns-clause-weight c = c.cells_weight.ensures ∙ ap (λ (cs : List Cell). cells_weight (expanded cs)) c.cells.ensures.cells

pub returns-clause-light : goal.returns-clause-light
returns-clause-light c = omega (arith, c.cells_weight.ensures, ap (λ (cs : List Cell). cells_weight (expanded cs)) c.cells.ensures.cells, c.cells.ensures.layout.light)
