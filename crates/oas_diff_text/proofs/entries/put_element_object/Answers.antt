use Rattle.std.proofs.Common.{◌≡◌, ◌∙◌, List, ℕ}
use Rattle.std.proofs.lemmas.Result.{err_from_is_err_and}
use Rattle.oas_num.proofs.PuttingLemmas.{begins, fails_at, ends, ◌▸◌}
use Rattle.oas_diff_text.proofs.EntryLemmas.{entry_parts, left_is}
use Rattle.oas_listing.specs.Shown.{element_of}
use Rattle.oas_diff_text.proofs.entries.put_element_object.Goals as goal

pub returns-in_err-put_kind : goal.returns-in_err-put_kind
returns-in_err-put_kind g c =
    let p = err_from_is_err_and c.from_residual.result c.from_residual.ensures.1 in
    let whole = entry_parts c.args.scale.now c.args.sign c.args.count (element_of c.args.element) c.kind_name.ensures c.as_bytes.ensures.bytes in
    rw p.1 (fails_at _ (left_is (begins _ _) whole) c.in_err-put_kind.ensures)

pub returns-in_err-put_fields : goal.returns-in_err-put_fields
returns-in_err-put_fields g c =
    let p = err_from_is_err_and c.from_residual-in_err-put_fields.result c.from_residual-in_err-put_fields.ensures.1 in
    let whole = entry_parts c.args.scale.now c.args.sign c.args.count (element_of c.args.element) c.kind_name.ensures c.as_bytes.ensures.bytes in
    rw p.1 (fails_at _ (left_is (begins _ _) whole ▸ c.in_ok-put_kind.ensures) c.in_err-put_fields.ensures)

pub returns-in_err-put_element_fields : goal.returns-in_err-put_element_fields
returns-in_err-put_element_fields g c =
    let p = err_from_is_err_and c.from_residual-in_err-put_element_fields.result c.from_residual-in_err-put_element_fields.ensures.1 in
    let whole = entry_parts c.args.scale.now c.args.sign c.args.count (element_of c.args.element) c.kind_name.ensures c.as_bytes.ensures.bytes in
    rw p.1 (fails_at _ (left_is (begins _ _) whole ▸ c.in_ok-put_kind.ensures ▸ c.in_ok-put_fields.ensures) c.in_err-put_element_fields.ensures)

pub returns : goal.returns
returns g c =
    let whole = entry_parts c.args.scale.now c.args.sign c.args.count (element_of c.args.element) c.kind_name.ensures c.as_bytes.ensures.bytes in
    ends _ _ (left_is (begins _ _) whole ▸ c.in_ok-put_kind.ensures ▸ c.in_ok-put_fields.ensures ▸ c.in_ok-put_element_fields.ensures) c.put_all.ensures
