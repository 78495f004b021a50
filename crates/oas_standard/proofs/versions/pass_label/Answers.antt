use Rattle.std.proofs.Common.{arith}
use Rattle.std.proofs.lemmas.Result.{err_from_is_err_and}
use Rattle.oas_num.specs.Texts.{IsLabelByte}
use Rattle.oas_num.specs.Laws.TextLaws.{PrefixFree-class}
use Rattle.oas_record.proofs.PassLemmas.{passed_none, passed_more, passed_fails, passed_all}
use Rattle.oas_standard.proofs.versions.pass_label.Goals as goal

pub loop-init : goal.loop-init
loop-init g c = passed_none _ _

pub returns-in_err-next_within : goal.returns-in_err-next_within
returns-in_err-next_within g c =
    let p = err_from_is_err_and c.from_residual.result c.from_residual.ensures.1 in
    rw (p.1, p.2) (passed_fails _ (PrefixFree-class IsLabelByte) c.loop-test.true c.loop.invariant c.in_err-next_within.ensures)

pub loop-preserved : goal.loop-preserved
loop-preserved g c = passed_more _ _ _ _ _ _ c.loop.invariant c.in_ok-next_within.ensures

pub returns : goal.returns
returns g c = passed_all _ _ _ _ _ _ (omega arith) c.loop.invariant
