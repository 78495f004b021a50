use Rattle.std.proofs.Common.{refl}
use Rattle.std.proofs.lemmas.Result.{err_from_is_err_and}
use Rattle.oas_writing.proofs.Taking.{named_inner}
use Rattle.oas_judge.proofs.RecordSteps.{peeked, part_refused, part_seen}
use Rattle.oas_judge.proofs.records.next_named.Goals as goal

pub returns-in_err-taken : goal.returns-in_err-taken
returns-in_err-taken g c =
    let p = err_from_is_err_and c.from_residual.result c.from_residual.ensures.1 in
    let element = c.in-Some.found.element in
    let is = rw c.ahead.ensures at c.in-Some.ensures in
    rw (p.1, p.2) (part_refused (peeked (named_inner element) is.spelled c.skip.ensures) c.args.at _ c.requires c.in_err-taken.ensures.refused)

pub returns : goal.returns
returns g c =
    let element = c.in-Some.found.element in
    let is = rw c.ahead.ensures at c.in-Some.ensures in
    part_seen (peeked (named_inner element) is.spelled c.skip.ensures) c.in_ok-taken.ensures.taken c.in_ok-taken.ensures.unit c.in_ok-taken.ensures.limits c.in_ok-taken.ensures.profile
    (c.judge_named.ensures.yes c.if-not-judge_named.false _ is) (λ told. refl)
