use Rattle.std.proofs.lemmas.Result.{err_from_is_err_and}
use Rattle.oas_num.proofs.ReadLemmas.{Consumed-none}
use Rattle.oas_writing.specs.Judging.{entry_records}
use Rattle.oas_writing.proofs.Ending.{end_refuses}
use Rattle.oas_judge.proofs.RecordSteps.{as_kept}
use Rattle.oas_judge.proofs.FileLemmas.{has_begun, kept_within, all_seen, read_judged}
use Rattle.oas_judge.proofs.checking.read_behind.Goals as goal

pub returns-in_err-canonical-clause-refused : goal.returns-in_err-canonical-clause-refused
returns-in_err-canonical-clause-refused g c =
    let p = err_from_is_err_and c.from_residual.result c.from_residual.ensures.1 in
    rw (p.1, p.2) (λ judged_by origin begun. kept_within c.new-reader.ensures.limits (c.in_err-canonical.ensures.judged judged_by (has_begun begun c.new-reader.ensures.stands)))

pub returns-in_err-layout-clause-refused : goal.returns-in_err-layout-clause-refused
returns-in_err-layout-clause-refused g c =
    let p = err_from_is_err_and c.from_residual-in_err-layout.result c.from_residual-in_err-layout.ensures.1 in
    rw (p.1, p.2) (λ judged_by origin begun.
    let b = has_begun begun c.new-reader.ensures.stands in
    let all = (c.in_ok-canonical.ensures.judged judged_by b).0 in
    as_kept (end_refuses (all_seen b all) (Consumed-none _) c.in_ok-canonical.ensures.ended _ c.new-reader.ensures.limits (c.in_err-layout.ensures.refused _ all.taken.stands)))

pub returns-clause-read : goal.returns-clause-read
returns-clause-read g c = λ judged_by origin begun.
    let b = has_begun begun c.new-reader.ensures.stands in
    let all = c.in_ok-canonical.ensures.judged judged_by b in
    let f = c.in_ok-layout.ensures in
    read_judged b all.0 c.new-reader.ensures.limits (f.accepted (entry_records all.0.entries) all.0.taken.stands) c.new-reader.ensures.unit (Consumed-none _) c.in_ok-canonical.ensures.ended _
    (f.layout (entry_records all.0.entries) all.0.taken.stands) _ all.1
