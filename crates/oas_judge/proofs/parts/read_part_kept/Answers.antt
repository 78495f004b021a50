use Rattle.std.proofs.Common.{◌≡◌, false, refl, sym, ◌∙◌}
use Rattle.std.proofs.lemmas.Option.{IfSome_then}
use Rattle.std.proofs.lemmas.Result.{err_from_is_err_and}
use Rattle.oas_judge.specs.FileJudges.{holds}
use Rattle.oas_judge.proofs.JudgeSteps.{peeked_failed}
use Rattle.oas_judge.proofs.RecordSteps.{part_fails, part_ends, part_refused, part_wants, part_seen}
use Rattle.oas_judge.proofs.parts.read_part_kept.Goals as goal

pub returns-in_err-record : goal.returns-in_err-record
returns-in_err-record g c =
    let p = err_from_is_err_and c.from_residual.result c.from_residual.ensures.1 in
    rw (p.1, p.2) (part_fails _ c.in_err-record.ensures.0 c.in_err-record.ensures.1)

pub returns-in_default : goal.returns-in_default
returns-in_default g c =
    let read = rw c.in_default.is at c.in_ok-record.ensures in
    part_ends c.end.result read
    (c.end.ensures read.bytes (IfSome_then c.since.result c.since.ensures (λ bytes is. is (g.S.Source.script c.args.source.now.source.now) read.bytes c.requires c.args.source.now.keeps.takes read.takes)))

pub returns-in_err-take : goal.returns-in_err-take
returns-in_err-take g c =
    let p = err_from_is_err_and c.from_residual-in_err-take.result c.from_residual-in_err-take.ensures.1 in
    let read = rw c.in-Some.is at c.in_ok-record.ensures in
    rw (p.1, p.2) (part_refused read c.args.at _ c.requires c.in_err-take.ensures.refused)

pub returns-then-not-holds : goal.returns-then-not-holds
returns-then-not-holds g c =
    let read = rw c.in-Some.is at c.in_ok-record.ensures in
    let failed : holds c.args.judge.now ≡ false = sym c.holds.ensures ∙ c.if-not-holds.true in
    part_seen read c.in_ok-take.ensures.taken c.in_ok-take.ensures.unit c.in_ok-take.ensures.limits c.in_ok-take.ensures.profile
    (peeked_failed read.bytes c.args.judge.now _ failed) (λ told. refl)

pub returns-in_default-candidate : goal.returns-in_default-candidate
returns-in_default-candidate g c = let read = rw c.in-Some.is at c.in_ok-record.ensures in part_wants read c.in_ok-take.ensures.taken

pub returns-in_default-since : goal.returns-in_default-since
returns-in_default-since g c = let read = rw c.in-Some.is at c.in_ok-record.ensures in part_wants read c.in_ok-take.ensures.taken

pub returns : goal.returns
returns g c =
    let read = rw c.in-Some.is at c.in_ok-record.ensures in
    part_seen read c.in_ok-take.ensures.taken c.in_ok-take.ensures.unit c.in_ok-take.ensures.limits c.in_ok-take.ensures.profile
    (record { candidate = _; says = c.in-Some-candidate.ensures.some; goes_on = c.judge.ensures })
    (λ told. c.in-Some-since.ensures (g.S.Source.script c.args.source.now.source.now) read.bytes c.requires c.args.source.now.keeps.takes read.takes)
