use Rattle.oas_record.proofs.PassLemmas.{Passed}
use Rattle.oas_standard.specs.Properties.{SpellsValue}
use Rattle.oas_standard.proofs.properties.pass_values.Given as goal

abbrev pub invariant-loop : goal.invariant-loop
invariant-loop g l = Passed SpellsValue (g.S.Source.script l.fn.source) (g.S.Source.script l.source) l.counter
