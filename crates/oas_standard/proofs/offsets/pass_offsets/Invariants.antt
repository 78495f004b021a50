use Rattle.oas_record.proofs.PassLemmas.{Passed}
use Rattle.oas_standard.specs.Long.{IsLong}
use Rattle.oas_standard.proofs.offsets.pass_offsets.Given as goal

abbrev pub invariant-loop : goal.invariant-loop
invariant-loop g l = Passed IsLong (g.S.Source.script l.fn.source) (g.S.Source.script l.source) l.counter
