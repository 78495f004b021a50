use Rattle.oas_layout.proofs.TotalLemmas.{Counted}
use Rattle.oas_layout.proofs.totals.elements_count.Given as goal

abbrev pub invariant-loop-times : goal.invariant-loop-times
invariant-loop-times l = Counted l.fn.elements l.times-iterator l.count
