use Rattle.std.proofs.Common.{◌≡◌}
use Rattle.std.proofs.lemmas.Result.{err_from_is_err_and}
use Rattle.oas_num.proofs.PuttingLemmas.{first, begins, fails_at, ends}
use Rattle.oas_diff_text.specs.Entries.{cell_line}
use Rattle.oas_diff_text.proofs.EntryLemmas.{signed_parts}
use Rattle.oas_diff_text.proofs.entries.put_cell_line.Goals as goal

pub returns-in_err-put_sign : goal.returns-in_err-put_sign
returns-in_err-put_sign g c =
    let p = err_from_is_err_and c.from_residual.result c.from_residual.ensures.1 in
    rw (p.1, signed_parts c.args.sign 1 (cell_line c.args.name.now)) (fails_at _ (begins _ _) c.in_err-put_sign.ensures)

pub returns : goal.returns
returns g c =
    let name : c.as_bytes.result.now ≡ c.args.name.now = c.as_bytes.ensures.bytes in
    rw (signed_parts c.args.sign 1 (cell_line c.args.name.now), ← name) (ends _ _ (first _ c.in_ok-put_sign.ensures) c.put_name.ensures)
