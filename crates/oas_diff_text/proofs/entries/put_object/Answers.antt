use Rattle.std.proofs.Common.{◌++◌, None}
use Rattle.std.proofs.lemmas.Result.{err_from_is_err_and}
use Rattle.oas_num.proofs.PuttingLemmas.{begins, fails_at, ends, ◌▸◌}
use Rattle.oas_diff_text.specs.Fields.{field_texts}
use Rattle.oas_diff_options.specs.declared.format.Syntax.TheVariants.{Json}
use Rattle.oas_diff_text.proofs.EntryLemmas.{object_parts, left_is}
use Rattle.oas_diff_text.proofs.entries.put_object.Goals as goal

pub returns-in_err-put_kind : goal.returns-in_err-put_kind
returns-in_err-put_kind g c =
    let p = err_from_is_err_and c.from_residual.result c.from_residual.ensures.1 in
    let whole = object_parts c.args.kind.now (field_texts Json None c.args.members.now) in
    rw p.1 (fails_at _ (left_is (begins _ _) whole) c.in_err-put_kind.ensures)

pub returns-in_err-put_fields : goal.returns-in_err-put_fields
returns-in_err-put_fields g c =
    let p = err_from_is_err_and c.from_residual-in_err-put_fields.result c.from_residual-in_err-put_fields.ensures.1 in
    let whole = object_parts c.args.kind.now (field_texts Json None c.args.members.now) in
    rw p.1 (fails_at _ (left_is (begins _ _) whole ▸ c.in_ok-put_kind.ensures) c.in_err-put_fields.ensures)

pub returns : goal.returns
returns g c =
    let whole = object_parts c.args.kind.now (field_texts Json None c.args.members.now) in
    ends _ _ (left_is (begins _ _) whole ▸ c.in_ok-put_kind.ensures ▸ c.in_ok-put_fields.ensures) c.put_all.ensures
