use Rattle.std.proofs.Common.{ℕ, List, length}
use Rattle.oas_elements.specs.declared.element.Element.{Element}
use Rattle.oas_layout.proofs.TotalLemmas.{Summed}
use Rattle.oas_layout.proofs.totals.cells_count.Given as goal

abbrev pub invariant-loop-elements : goal.invariant-loop-elements
invariant-loop-elements l = Summed (λ (c : List ℕ × List Element). length c.1) l.fn.cells l.elements-iterator l.count
