use Rattle.oas_num.proofs.IntegerLemmas.{Partway}
use Rattle.oas_num.proofs.integers.read_unsigned.Given as goal

abbrev pub invariant-loop : goal.invariant-loop
invariant-loop g l = Partway (g.S.Source.script l.fn.source) (g.S.Source.script l.source) l.counter l.value l.weight
