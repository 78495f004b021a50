use Rattle.std.proofs.Common.{refl}
use Rattle.oas_difference.proofs.EntryLemmas.{left_is}
use Rattle.oas_markers.proofs.Steps.{cell_item_parts}
use Rattle.std.proofs.lemmas.Result.{err_from_is_err_and}
use Rattle.oas_num.proofs.PuttingLemmas.{begins, fails_at, ends, ◌▸◌}
use Rattle.oas_markers.proofs.items.put_cell_item.Goals as goal

pub returns-in_err-put_all : goal.returns-in_err-put_all
returns-in_err-put_all g c =
    let p = err_from_is_err_and c.from_residual.result c.from_residual.ensures.1 in
    let whole = cell_item_parts c.args.way c.args.name.now c.item_front.ensures refl in
    rw p.1 (fails_at _ (left_is (begins _ _) whole) c.in_err-put_all.ensures)

pub returns-in_err-put_all-2 : goal.returns-in_err-put_all-2
returns-in_err-put_all-2 g c =
    let p = err_from_is_err_and c.from_residual-in_err-put_all-2.result c.from_residual-in_err-put_all-2.ensures.1 in
    let whole = cell_item_parts c.args.way c.args.name.now c.item_front.ensures refl in
    rw p.1 (fails_at _ (left_is (begins _ _) whole ▸ c.in_ok-put_all.ensures) c.in_err-put_all-2.ensures)

pub returns-in_err-put_escaped : goal.returns-in_err-put_escaped
returns-in_err-put_escaped g c =
    let p = err_from_is_err_and c.from_residual-in_err-put_escaped.result c.from_residual-in_err-put_escaped.ensures.1 in
    let whole = cell_item_parts c.args.way c.args.name.now c.item_front.ensures c.as_bytes.ensures.bytes in
    rw p.1 (fails_at _ (left_is (begins _ _) whole ▸ c.in_ok-put_all.ensures ▸ c.in_ok-put_all-2.ensures) c.in_err-put_escaped.ensures)

pub returns : goal.returns
returns g c =
    let whole = cell_item_parts c.args.way c.args.name.now c.item_front.ensures c.as_bytes.ensures.bytes in
    ends _ _ (left_is (begins _ _) whole ▸ c.in_ok-put_all.ensures ▸ c.in_ok-put_all-2.ensures ▸ c.in_ok-put_escaped.ensures) c.put_all-3.ensures
