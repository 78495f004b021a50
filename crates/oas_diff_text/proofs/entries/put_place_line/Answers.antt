use Rattle.std.proofs.Common.{◌≡◌}
use Rattle.std.proofs.lemmas.Result.{err_from_is_err_and}
use Rattle.oas_num.proofs.PuttingLemmas.{first, begins, fails_at, ends}
use Rattle.oas_diff_text.proofs.EntryLemmas.{place_parts}
use Rattle.oas_diff_text.proofs.entries.put_place_line.Goals as goal

pub returns-in_err-put_all : goal.returns-in_err-put_all
returns-in_err-put_all g c =
    let p = err_from_is_err_and c.from_residual.result c.from_residual.ensures.1 in
    rw (p.1, place_parts c.args.name.now) (fails_at _ (begins _ _) c.in_err-put_all.ensures)

pub returns : goal.returns
returns g c =
    let name : c.as_bytes.result.now ≡ c.args.name.now = c.as_bytes.ensures.bytes in
    rw (place_parts c.args.name.now, ← name) (ends _ _ (first _ c.in_ok-put_all.ensures) c.put_name.ensures)
