use Rattle.std.proofs.Common.{ℕ, ◌+◌, List, length}
use Rattle.std.specs.Prelude.{sum_by}
use Rattle.oas_elements.specs.declared.element.Element.{Element}
use Rattle.oas_elements.specs.Weight.{weight_of}
use Rattle.oas_layout.proofs.TotalLemmas.{Summed}
use Rattle.oas_layout.proofs.totals.cells_weight.Given as goal

abbrev pub invariant-loop-name : goal.invariant-loop-name
invariant-loop-name l = Summed (λ (c : List ℕ × List Element). (1 + length c.0) + sum_by weight_of c.1) l.fn.cells l.name-iterator l.weight
