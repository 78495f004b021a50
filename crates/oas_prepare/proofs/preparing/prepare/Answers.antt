use Rattle.std.proofs.Common.{ap}
use Rattle.std.proofs.lemmas.Result.{err_from_is_err_and}
use Rattle.oas_narrow.specs.WideWhy.TheVariants.{Profile}
use Rattle.oas_prepare.proofs.Whole.{done, cut, exactly_done, exactly_stopped, exactly_unwritten}
use Rattle.oas_prepare.proofs.preparing.prepare.Goals as goal

pub returns-in_err-layout-clause-exactly : goal.returns-in_err-layout-clause-exactly
returns-in_err-layout-clause-exactly g c =
    let p = err_from_is_err_and c.from_residual.result c.from_residual.ensures.1 in
    rw (p.1, p.2) (exactly_stopped _ c.in_err-layout.ensures.0)

pub returns-in_err-write_canonical-clause-cut : goal.returns-in_err-write_canonical-clause-cut
returns-in_err-write_canonical-clause-cut g c =
    let p = err_from_is_err_and c.from_residual-in_err-write_canonical.result c.from_residual-in_err-write_canonical.ensures.1 in
    rw (p.1, p.2) (λ _. cut c.in_ok-layout.ensures g.W.Device.calls _ _ _ c.in_err-write_canonical.ensures.refused)

pub returns-in_err-write_canonical-clause-exactly : goal.returns-in_err-write_canonical-clause-exactly
returns-in_err-write_canonical-clause-exactly g c =
    let p = err_from_is_err_and c.from_residual-in_err-write_canonical.result c.from_residual-in_err-write_canonical.ensures.1 in
    rw (p.1, p.2) (exactly_unwritten c.args.limits c.args.dropping (g.S.Source.script c.args.from.now) (g.S.Source.script c.read_prepared.new.from) _ (ap Profile c.in_err-write_canonical.ensures.refused.reason))

pub returns-clause-done : goal.returns-clause-done
returns-clause-done g c = done c.in_ok-layout.ensures g.W.Device.calls _ _ _ c.in_ok-write_canonical.ensures.written

pub returns-clause-exactly : goal.returns-clause-exactly
returns-clause-exactly g c = exactly_done c.in_ok-layout.ensures
