use Rattle.oas_peek.proofs.FrontLemmas.{Partway}
use Rattle.oas_peek.proofs.fronts.Front.longer.Given as goal

abbrev pub invariant-loop : goal.invariant-loop
invariant-loop l = Partway l.first l.fn.self l.self l.counter l.value l.weight
