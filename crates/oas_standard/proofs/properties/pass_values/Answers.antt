use Rattle.std.proofs.Common.{arith}
use Rattle.std.proofs.lemmas.Result.{err_from_is_err_and}
use Rattle.oas_record.proofs.PassLemmas.{passed_none, passed_more, passed_fails, passed_all}
use Rattle.oas_standard.specs.Properties.{property_value, SpellsValue}
use Rattle.oas_standard.proofs.properties.pass_values.Goals as goal

pub loop-init : goal.loop-init
loop-init g c = passed_none _ _

pub returns-in_err-read : goal.returns-in_err-read
returns-in_err-read g c =
    let p = err_from_is_err_and c.from_residual.result c.from_residual.ensures.1 in
    rw (p.1, p.2) (passed_fails SpellsValue property_value.found.one c.loop-test.true c.loop.invariant c.in_err-read.ensures)

pub loop-preserved : goal.loop-preserved
loop-preserved g c = passed_more _ _ _ _ _ _ c.loop.invariant c.in_ok-read.ensures

pub returns : goal.returns
returns g c = passed_all _ _ _ _ _ _ (omega arith) c.loop.invariant
