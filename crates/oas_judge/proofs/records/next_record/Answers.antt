use Rattle.std.proofs.Common.{ℕ, List, ap}
use Rattle.std.specs.Prelude.{take}
use Rattle.std.proofs.lemmas.Result.{err_from_is_err_and}
use Rattle.oas_judge.proofs.RecordSteps.{part_refused, part_seen}
use Rattle.oas_judge.proofs.records.next_record.Goals as goal

pub returns-in_err-take : goal.returns-in_err-take
returns-in_err-take g c =
    let p = err_from_is_err_and c.from_residual.result c.from_residual.ensures.1 in
    let is = rw c.ahead-ahead.ensures at c.in-Some.ensures in
    rw (p.1, p.2) (part_refused (record { bytes = _; spelled = is.spelled; takes = c.skip.ensures }) c.args.at _ c.requires c.in_err-take.ensures.refused)

pub returns : goal.returns
returns g c =
    let is = rw c.ahead-ahead.ensures at c.in-Some.ensures in
    part_seen (record { bytes = _; spelled = is.spelled; takes = c.skip.ensures }) c.in_ok-take.ensures.taken c.in_ok-take.ensures.unit c.in_ok-take.ensures.limits c.in_ok-take.ensures.profile
    (record { candidate = _; says = c.in-Some-candidate.ensures.some; goes_on = c.judge.ensures }) (λ told. ap (λ (l : List ℕ). take c.in-Some.found.length l) c.ahead-ahead.ensures)
