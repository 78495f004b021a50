use Rattle.std.proofs.Common.{◌≡◌}
use Rattle.std.proofs.lemmas.Result.{err_from_is_err_and}
use Rattle.oas_num.proofs.PuttingLemmas.{first, begins, fails_at, ends, ◌▸◌}
use Rattle.oas_difference.specs.Difference.{same_ratio}
use Rattle.oas_markers.proofs.items.put_head.Goals as goal

pub returns-in_err-put_all : goal.returns-in_err-put_all
returns-in_err-put_all g c =
    let p = err_from_is_err_and c.from_residual.result c.from_residual.ensures.1 in
    rw p.1 (fails_at _ (begins _ _) c.in_err-put_all.ensures)

pub returns-in_err-put_about : goal.returns-in_err-put_about
returns-in_err-put_about g c =
    let p = err_from_is_err_and c.from_residual-in_err-put_about.result c.from_residual-in_err-put_about.ensures.1 in
    let same : c.eq.result ≡ same_ratio c.args.before c.args.after = c.eq.ensures in
    rw (p.1, ← same) (fails_at _ (first _ c.in_ok-put_all.ensures) c.in_err-put_about.ensures)

pub returns-in_err-put_note : goal.returns-in_err-put_note
returns-in_err-put_note g c =
    let p = err_from_is_err_and c.from_residual-in_err-put_note.result c.from_residual-in_err-put_note.ensures.1 in
    let same : c.eq.result ≡ same_ratio c.args.before c.args.after = c.eq.ensures in
    rw (p.1, ← same) (fails_at _ (first _ c.in_ok-put_all.ensures ▸ c.in_ok-put_about.ensures) c.in_err-put_note.ensures)

pub returns-in_err-put_all-2 : goal.returns-in_err-put_all-2
returns-in_err-put_all-2 g c =
    let p = err_from_is_err_and c.from_residual-in_err-put_all-2.result c.from_residual-in_err-put_all-2.ensures.1 in
    let same : c.eq.result ≡ same_ratio c.args.before c.args.after = c.eq.ensures in
    rw (p.1, ← same) (fails_at _ (first _ c.in_ok-put_all.ensures ▸ c.in_ok-put_about.ensures ▸ c.in_ok-put_note.ensures) c.in_err-put_all-2.ensures)

pub returns : goal.returns
returns g c =
    let same : c.eq.result ≡ same_ratio c.args.before c.args.after = c.eq.ensures in
    rw (← same) (ends _ _ (first _ c.in_ok-put_all.ensures ▸ c.in_ok-put_about.ensures ▸ c.in_ok-put_note.ensures ▸ c.in_ok-put_all-2.ensures) c.put_categories.ensures)
