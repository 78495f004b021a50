use Rattle.std.proofs.Common.{Some}
use Rattle.std.proofs.lemmas.Result.{err_from_is_err_and}
use Rattle.oas_writing.proofs.Ending.{not_ended}
use Rattle.oas_judge.proofs.RecordSteps.{as_kept, stops_wanting}
use Rattle.oas_judge.proofs.FileLemmas.{all_seen, seen_to_end}
use Rattle.oas_judge.proofs.checking.judge_to_end.Goals as goal

pub returns-in_err-part-clause-judged : goal.returns-in_err-part-clause-judged
returns-in_err-part-clause-judged g c =
    let p = err_from_is_err_and c.from_residual.result c.from_residual.ensures.1 in
    rw (p.1, p.2) (λ profile b. as_kept (c.in_err-part.ensures profile b))

pub returns-in_default-clause-judged : goal.returns-in_default-clause-judged
returns-in_default-clause-judged g c = λ profile b. stops_wanting g.C.CellStore.store profile c.args.head c.args.reader.now b _ _ _ _ _ (c.in_ok-part.ensures profile b)

pub returns-in_err-find_end_of_input-clause-judged : goal.returns-in_err-find_end_of_input-clause-judged
returns-in_err-find_end_of_input-clause-judged g c =
    let p = err_from_is_err_and c.from_residual-in_err-find_end_of_input.result c.from_residual-in_err-find_end_of_input.ensures.1 in
    rw (p.1, p.2) (λ profile b. as_kept (not_ended (all_seen b ((rw c.in-Some.ensures at c.in_ok-part.ensures) profile b).0) _ c.in_err-find_end_of_input.ensures))

pub returns-clause-judged : goal.returns-clause-judged
returns-clause-judged g c = λ profile b.
    let all = (rw c.in-Some.ensures at c.in_ok-part.ensures) profile b in
    seen_to_end (Some c.in-Some.canonical) all c.in_ok-find_end_of_input.ensures.0
