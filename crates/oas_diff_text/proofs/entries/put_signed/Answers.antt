use Rattle.std.proofs.lemmas.Result.{err_from_is_err_and}
use Rattle.oas_num.proofs.PuttingLemmas.{first, begins, fails_at, ends}
use Rattle.oas_diff_text.specs.Entries.{line_in}
use Rattle.oas_diff_text.proofs.EntryLemmas.{signed_parts}
use Rattle.oas_listing.specs.Shown.{element_of}
use Rattle.oas_diff_text.proofs.entries.put_signed.Goals as goal

pub returns-in_err-put_sign : goal.returns-in_err-put_sign
returns-in_err-put_sign g c =
    let p = err_from_is_err_and c.from_residual.result c.from_residual.ensures.1 in
    rw (p.1, signed_parts c.args.sign c.args.count (line_in c.args.scale.now (element_of c.args.element))) (fails_at _ (begins _ _) c.in_err-put_sign.ensures)

pub returns : goal.returns
returns g c =
    rw (signed_parts c.args.sign c.args.count (line_in c.args.scale.now (element_of c.args.element))) (ends _ _ (first _ c.in_ok-put_sign.ensures) c.put_line.ensures)
