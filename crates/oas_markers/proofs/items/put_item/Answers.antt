use Rattle.std.proofs.Common.{refl}
use Rattle.oas_difference.proofs.EntryLemmas.{left_is}
use Rattle.oas_difference.specs.Shown.{element_of}
use Rattle.oas_markers.proofs.Steps.{item_parts}
use Rattle.std.proofs.lemmas.Result.{err_from_is_err_and}
use Rattle.oas_num.proofs.PuttingLemmas.{begins, fails_at, ends, ◌▸◌}
use Rattle.oas_markers.proofs.items.put_item.Goals as goal

pub returns-in_err-put_all : goal.returns-in_err-put_all
returns-in_err-put_all g c =
    let p = err_from_is_err_and c.from_residual.result c.from_residual.ensures.1 in
    let whole = item_parts c.args.unit c.args.way c.args.name.now c.args.count (element_of c.args.element) c.item_front.ensures refl refl in
    rw p.1 (fails_at _ (left_is (begins _ _) whole) c.in_err-put_all.ensures)

pub returns-in_err-put_all-2 : goal.returns-in_err-put_all-2
returns-in_err-put_all-2 g c =
    let p = err_from_is_err_and c.from_residual-in_err-put_all-2.result c.from_residual-in_err-put_all-2.ensures.1 in
    let whole = item_parts c.args.unit c.args.way c.args.name.now c.args.count (element_of c.args.element) c.item_front.ensures c.kind_name.ensures refl in
    rw p.1 (fails_at _ (left_is (begins _ _) whole ▸ c.in_ok-put_all.ensures) c.in_err-put_all-2.ensures)

pub returns-in_err-put_all-3 : goal.returns-in_err-put_all-3
returns-in_err-put_all-3 g c =
    let p = err_from_is_err_and c.from_residual-in_err-put_all-3.result c.from_residual-in_err-put_all-3.ensures.1 in
    let whole = item_parts c.args.unit c.args.way c.args.name.now c.args.count (element_of c.args.element) c.item_front.ensures c.kind_name.ensures refl in
    rw p.1 (fails_at _ (left_is (begins _ _) whole ▸ c.in_ok-put_all.ensures ▸ c.in_ok-put_all-2.ensures) c.in_err-put_all-3.ensures)

pub returns-in_err-put_escaped : goal.returns-in_err-put_escaped
returns-in_err-put_escaped g c =
    let p = err_from_is_err_and c.from_residual-in_err-put_escaped.result c.from_residual-in_err-put_escaped.ensures.1 in
    let whole = item_parts c.args.unit c.args.way c.args.name.now c.args.count (element_of c.args.element) c.item_front.ensures c.kind_name.ensures c.as_bytes.ensures.bytes in
    rw p.1 (fails_at _ (left_is (begins _ _) whole ▸ c.in_ok-put_all.ensures ▸ c.in_ok-put_all-2.ensures ▸ c.in_ok-put_all-3.ensures) c.in_err-put_escaped.ensures)

pub returns-in_err-put_all-4 : goal.returns-in_err-put_all-4
returns-in_err-put_all-4 g c =
    let p = err_from_is_err_and c.from_residual-in_err-put_all-4.result c.from_residual-in_err-put_all-4.ensures.1 in
    let whole = item_parts c.args.unit c.args.way c.args.name.now c.args.count (element_of c.args.element) c.item_front.ensures c.kind_name.ensures c.as_bytes.ensures.bytes in
    rw p.1 (fails_at _ (left_is (begins _ _) whole ▸ c.in_ok-put_all.ensures ▸ c.in_ok-put_all-2.ensures ▸ c.in_ok-put_all-3.ensures ▸ c.in_ok-put_escaped.ensures) c.in_err-put_all-4.ensures)

pub returns-in_err-put_number : goal.returns-in_err-put_number
returns-in_err-put_number g c =
    let p = err_from_is_err_and c.from_residual-in_err-put_number.result c.from_residual-in_err-put_number.ensures.1 in
    let whole = item_parts c.args.unit c.args.way c.args.name.now c.args.count (element_of c.args.element) c.item_front.ensures c.kind_name.ensures c.as_bytes.ensures.bytes in
    rw p.1 (fails_at _ (left_is (begins _ _) whole ▸ c.in_ok-put_all.ensures ▸ c.in_ok-put_all-2.ensures ▸ c.in_ok-put_all-3.ensures ▸ c.in_ok-put_escaped.ensures ▸ c.in_ok-put_all-4.ensures) c.in_err-put_number.ensures)

pub returns-in_err-put_all-5 : goal.returns-in_err-put_all-5
returns-in_err-put_all-5 g c =
    let p = err_from_is_err_and c.from_residual-in_err-put_all-5.result c.from_residual-in_err-put_all-5.ensures.1 in
    let whole = item_parts c.args.unit c.args.way c.args.name.now c.args.count (element_of c.args.element) c.item_front.ensures c.kind_name.ensures c.as_bytes.ensures.bytes in
    rw p.1 (fails_at _ (left_is (begins _ _) whole ▸ c.in_ok-put_all.ensures ▸ c.in_ok-put_all-2.ensures ▸ c.in_ok-put_all-3.ensures ▸ c.in_ok-put_escaped.ensures ▸ c.in_ok-put_all-4.ensures ▸ c.in_ok-put_number.ensures) c.in_err-put_all-5.ensures)

pub returns : goal.returns
returns g c =
    let whole = item_parts c.args.unit c.args.way c.args.name.now c.args.count (element_of c.args.element) c.item_front.ensures c.kind_name.ensures c.as_bytes.ensures.bytes in
    ends _ _ (left_is (begins _ _) whole ▸ c.in_ok-put_all.ensures ▸ c.in_ok-put_all-2.ensures ▸ c.in_ok-put_all-3.ensures ▸ c.in_ok-put_escaped.ensures ▸ c.in_ok-put_all-4.ensures ▸ c.in_ok-put_number.ensures ▸ c.in_ok-put_all-5.ensures) c.put_values.ensures
