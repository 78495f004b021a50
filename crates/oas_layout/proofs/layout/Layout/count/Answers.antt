use Rattle.std.proofs.Common.{List, ap, ◌∙◌, arith}
use Rattle.oas_elements.specs.Contents.{Cell, expanded}
use Rattle.oas_elements.specs.Meaning.{element_count}
use Rattle.oas_layout.proofs.layout.Layout.count.Goals as goal

pub cells_count-requires : goal.cells_count-requires
cells_count-requires c =
    omega (arith, ap (λ (cs : List Cell). element_count (expanded cs)) c.cells.ensures.cells, c.cells.ensures.layout.few, c.cells.ensures.layout.limits.few)

pub returns-clause-count : goal.returns-clause-count
returns-clause-count c = c.cells_count.ensures ∙ ap (λ (cs : List Cell). element_count (expanded cs)) c.cells.ensures.cells

pub returns-clause-few : goal.returns-clause-few
returns-clause-few c = omega (arith, c.cells_count.ensures, ap (λ (cs : List Cell). element_count (expanded cs)) c.cells.ensures.cells, c.cells.ensures.layout.few)
