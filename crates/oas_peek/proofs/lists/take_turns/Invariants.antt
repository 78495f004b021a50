use Rattle.oas_peek.proofs.ListLemmas.{Alternated}
use Rattle.oas_peek.proofs.lists.take_turns.Given as goal

abbrev pub invariant-loop : goal.invariant-loop
invariant-loop l = Alternated l.x_first l.fn.front l.front l.steps.items l.along_x l.counter
