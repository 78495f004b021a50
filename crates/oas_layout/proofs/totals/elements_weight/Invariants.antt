use Rattle.oas_elements.specs.Weight.{weight_of}
use Rattle.oas_layout.proofs.TotalLemmas.{Weighed}
use Rattle.oas_layout.proofs.totals.elements_weight.Given as goal

abbrev pub invariant-loop-element : goal.invariant-loop-element
invariant-loop-element l = Weighed weight_of l.fn.elements l.element-iterator l.weight
