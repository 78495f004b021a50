use Rattle.oas_shape.proofs.StepLemmas.{Alternated}
use Rattle.oas_shape.proofs.steps.read_alternating.Given as goal

abbrev pub invariant-loop : goal.invariant-loop
invariant-loop g l = Alternated l.x_first (g.S.Source.script l.fn.source) (g.S.Source.script l.source) l.turns.items l.along_x l.counter
