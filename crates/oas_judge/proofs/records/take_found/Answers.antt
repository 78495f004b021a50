use Rattle.std.proofs.Common.{refl}
use Rattle.std.proofs.lemmas.Result.{err_from_is_err_and}
use Rattle.oas_judge.proofs.RecordSteps.{peeked, part_refused, part_seen}
use Rattle.oas_judge.proofs.records.take_found.Goals as goal

pub returns-in_err-take_rectangle : goal.returns-in_err-take_rectangle
returns-in_err-take_rectangle g c head =
    let p = err_from_is_err_and c.from_residual.result c.from_residual.ensures.1 in
    let is = c.requires.found in
    rw (p.1, p.2) (part_refused (peeked (λ e. cc) is.spelled c.skip.ensures) c.args.at _ c.requires.place c.in_err-take_rectangle.ensures.refused)

pub returns : goal.returns
returns g c head =
    let is = c.requires.found in
    part_seen (peeked (λ e. cc) is.spelled c.skip.ensures) c.in_ok-take_rectangle.ensures.taken c.in_ok-take_rectangle.ensures.unit c.in_ok-take_rectangle.ensures.limits c.in_ok-take_rectangle.ensures.profile
    (c.judge_rectangle.ensures.yes c.if-not-judge_rectangle.false _ is) (λ told. refl)
