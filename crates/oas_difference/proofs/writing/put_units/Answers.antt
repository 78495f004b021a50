use Rattle.std.proofs.Common.{◌≡◌, ◌∙◌, false, sym}
use Rattle.std.proofs.lemmas.Result.{err_from_is_err_and}
use Rattle.oas_num.proofs.PuttingLemmas.{begins, fails_at, ends, ◌▸◌}
use Rattle.oas_difference.specs.Difference.{same_ratio}
use Rattle.oas_diff_text.proofs.EntryLemmas.{left_is}
use Rattle.oas_difference.proofs.Steps.{units_parts}
use Rattle.oas_difference.proofs.writing.put_units.Goals as goal

pub returns-in_err-put_unit_entry : goal.returns-in_err-put_unit_entry
returns-in_err-put_unit_entry g c =
    let p = err_from_is_err_and c.from_residual.result c.from_residual.ensures.1 in
    let apart : same_ratio c.args.before c.args.after ≡ false = sym c.eq.ensures ∙ c.if-eq.false in
    let whole = units_parts c.args.syntax c.args.before c.args.after apart in
    rw p.1 (fails_at _ (left_is (begins _ _) whole) c.in_err-put_unit_entry.ensures)

pub returns : goal.returns
returns g c =
    let apart : same_ratio c.args.before c.args.after ≡ false = sym c.eq.ensures ∙ c.if-eq.false in
    let whole = units_parts c.args.syntax c.args.before c.args.after apart in
    ends _ _ (left_is (begins _ _) whole ▸ c.in_ok-put_unit_entry.ensures) c.put_unit_entry-2.ensures
