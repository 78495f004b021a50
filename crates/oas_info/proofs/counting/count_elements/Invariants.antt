use Rattle.oas_info.proofs.CountingLemmas.{ElementsLeft}
use Rattle.oas_info.proofs.counting.count_elements.Given as goal

abbrev pub invariant-loop-element : goal.invariant-loop-element
invariant-loop-element l = ElementsLeft l.fn.elements l.element-iterator l.fn.totals l.totals
