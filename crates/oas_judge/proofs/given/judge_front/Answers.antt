use Rattle.std.proofs.Common.{inl, refl, sym, ◌∙◌}
use Rattle.std.proofs.lemmas.Result.{err_from_is_err_and}
use Rattle.oas_writing.specs.Judging.{entry_records}
use Rattle.oas_writing.proofs.Ending.{refuses_within, not_ended, end_refuses}
use Rattle.oas_judge.proofs.FileLemmas.{has_begun, all_seen}
use Rattle.oas_judge.proofs.GivenLemmas.{given_form, known_yes, stopped_before}
use Rattle.oas_judge.proofs.given.judge_front.Goals as goal

pub returns-in_err-head : goal.returns-in_err-head
returns-in_err-head g c =
    let p = err_from_is_err_and c.from_residual.result c.from_residual.ensures.1 in
    rw (p.1, p.2) (c.in_err-head.ensures.refused c.args.limits)

pub returns-in_err-part : goal.returns-in_err-part
returns-in_err-part g c =
    let p = err_from_is_err_and c.from_residual-in_err-part.result c.from_residual-in_err-part.ensures.1 in
    let b = has_begun c.in_ok-head.ensures.begun c.new-reader.ensures.stands in
    rw (p.1, p.2) (refuses_within c.new-reader.ensures.limits (c.in_err-part.ensures c.args.profile b))

pub returns-in_default : goal.returns-in_default
returns-in_default g c =
    let b = has_begun c.in_ok-head.ensures.begun c.new-reader.ensures.stands in
    (refuses_within c.new-reader.ensures.limits (stopped_before b _ _ _ _ _ c.in_default.not-End (c.in_ok-part.ensures c.args.profile b)), λ told. cc)

pub returns-in_err-find_end_of_input : goal.returns-in_err-find_end_of_input
returns-in_err-find_end_of_input g c =
    let p = err_from_is_err_and c.from_residual-in_err-find_end_of_input.result c.from_residual-in_err-find_end_of_input.ensures.1 in
    let b = has_begun c.in_ok-head.ensures.begun c.new-reader.ensures.stands in
    let all = ((rw c.in-End.is at c.in_ok-part.ensures) c.args.profile b).0 in
    rw (p.1, p.2) (refuses_within c.new-reader.ensures.limits (not_ended (all_seen b all) _ c.in_err-find_end_of_input.ensures))

pub returns-in_err-finish_counting : goal.returns-in_err-finish_counting
returns-in_err-finish_counting g c =
    let p = err_from_is_err_and c.from_residual-in_err-finish_counting.result c.from_residual-in_err-finish_counting.ensures.1 in
    let b = has_begun c.in_ok-head.ensures.begun c.new-reader.ensures.stands in
    let all = ((rw c.in-End.is at c.in_ok-part.ensures) c.args.profile b).0 in
    let found = c.in_ok-find_end_of_input.ensures in
    rw (p.1, p.2) (end_refuses (all_seen b all) found.0 found.1 _ c.new-reader.ensures.limits (c.in_err-finish_counting.ensures.refused (entry_records all.entries) all.taken.stands))

pub returns : goal.returns
returns g c =
    let b = has_begun c.in_ok-head.ensures.begun c.new-reader.ensures.stands in
    let all = (rw c.in-End.is at c.in_ok-part.ensures) c.args.profile b in
    let found = c.in_ok-find_end_of_input.ensures in (
      end_refuses (all_seen b all.0) found.0 found.1 _ c.new-reader.ensures.limits (refl, inl refl),
      λ told. given_form b all.0 (known_yes _ c.in-End.known (sym c.unwrap_or-canonical.ensures ∙ told) all.1) c.new-reader.ensures.limits (c.in_ok-finish_counting.ensures.accepted (entry_records all.0.entries) all.0.taken.stands) found.0 found.1,
    )
