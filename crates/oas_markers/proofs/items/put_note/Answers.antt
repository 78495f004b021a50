use Rattle.std.proofs.lemmas.Result.{err_from_is_err_and}
use Rattle.oas_num.proofs.PuttingLemmas.{begins, fails_at, ends, ◌▸◌}
use Rattle.oas_difference.proofs.EntryLemmas.{left_is}
use Rattle.oas_markers.proofs.Steps.{note_parts}
use Rattle.oas_markers.proofs.items.put_note.Goals as goal

pub returns-in_err-put_all : goal.returns-in_err-put_all
returns-in_err-put_all g c =
    let p = err_from_is_err_and c.from_residual.result c.from_residual.ensures.1 in
    rw p.1 (fails_at _ (left_is (begins _ _) (note_parts c.args.most c.args.count c.if-most-count.true)) c.in_err-put_all.ensures)

pub returns-in_err-put_number : goal.returns-in_err-put_number
returns-in_err-put_number g c =
    let p = err_from_is_err_and c.from_residual-in_err-put_number.result c.from_residual-in_err-put_number.ensures.1 in
    rw p.1 (fails_at _ (left_is (begins _ _) (note_parts c.args.most c.args.count c.if-most-count.true) ▸ c.in_ok-put_all.ensures) c.in_err-put_number.ensures)

pub returns-in_err-put_all-2 : goal.returns-in_err-put_all-2
returns-in_err-put_all-2 g c =
    let p = err_from_is_err_and c.from_residual-in_err-put_all-2.result c.from_residual-in_err-put_all-2.ensures.1 in
    rw p.1 (fails_at _ (left_is (begins _ _) (note_parts c.args.most c.args.count c.if-most-count.true) ▸ c.in_ok-put_all.ensures ▸ c.in_ok-put_number.ensures) c.in_err-put_all-2.ensures)

pub returns-in_err-put_number-2 : goal.returns-in_err-put_number-2
returns-in_err-put_number-2 g c =
    let p = err_from_is_err_and c.from_residual-in_err-put_number-2.result c.from_residual-in_err-put_number-2.ensures.1 in
    rw p.1 (fails_at _ (left_is (begins _ _) (note_parts c.args.most c.args.count c.if-most-count.true) ▸ c.in_ok-put_all.ensures ▸ c.in_ok-put_number.ensures ▸ c.in_ok-put_all-2.ensures) c.in_err-put_number-2.ensures)

pub returns-in_ok-put_number-2 : goal.returns-in_ok-put_number-2
returns-in_ok-put_number-2 g c =
    ends _ _ (left_is (begins _ _) (note_parts c.args.most c.args.count c.if-most-count.true) ▸ c.in_ok-put_all.ensures ▸ c.in_ok-put_number.ensures ▸ c.in_ok-put_all-2.ensures
    ▸ c.in_ok-put_number-2.ensures) c.put_all-then-most-count-2.ensures
