use Rattle.oas_num.proofs.TextLemmas.{Passed}
use Rattle.oas_standard.proofs.long.pass_over.Given as goal

abbrev pub invariant-loop : goal.invariant-loop
invariant-loop g l = Passed (g.S.Source.script l.fn.source) (g.S.Source.script l.source) l.counter
