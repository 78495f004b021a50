use Rattle.oas_num.specs.Integers.{IsUnsigned}
use Rattle.oas_record.proofs.PassLemmas.{Passed}
use Rattle.oas_record.proofs.passing.pass_offsets.Given as goal

abbrev pub invariant-loop : goal.invariant-loop
invariant-loop g l = Passed IsUnsigned (g.S.Source.script l.fn.source) (g.S.Source.script l.source) l.counter
