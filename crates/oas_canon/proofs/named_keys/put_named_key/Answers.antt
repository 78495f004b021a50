use Rattle.std.proofs.lemmas.Result.{err_from_is_err_and}
use Rattle.oas_num.proofs.PuttingLemmas.{first, begins, fails_at, ends, ◌▸◌}
use Rattle.oas_canon.proofs.CellKeyLemmas.{line_is}
use Rattle.oas_canon.proofs.named_keys.put_named_key.Goals as goal

pub returns-in_err-put_all : goal.returns-in_err-put_all
returns-in_err-put_all g c =
    let p = err_from_is_err_and c.from_residual.result c.from_residual.ensures.1 in
    rw (p.1, line_is c.args.key.now c.hex_text-text.result c.args.name.now c.hex_text-text.ensures) (fails_at _ (begins _ _) c.in_err-put_all.ensures)

pub returns-in_err-put_all-2 : goal.returns-in_err-put_all-2
returns-in_err-put_all-2 g c =
    let p = err_from_is_err_and c.from_residual-in_err-put_all-2.result c.from_residual-in_err-put_all-2.ensures.1 in
    rw (p.1, line_is c.args.key.now c.hex_text-text.result c.args.name.now c.hex_text-text.ensures) (fails_at _ (first _ c.in_ok-put_all.ensures) c.in_err-put_all-2.ensures)

pub returns-in_err-put_all-3 : goal.returns-in_err-put_all-3
returns-in_err-put_all-3 g c =
    let p = err_from_is_err_and c.from_residual-in_err-put_all-3.result c.from_residual-in_err-put_all-3.ensures.1 in
    rw (p.1, line_is c.args.key.now c.hex_text-text.result c.args.name.now c.hex_text-text.ensures) (fails_at _ (first _ c.in_ok-put_all.ensures ▸ c.in_ok-put_all-2.ensures) c.in_err-put_all-3.ensures)

pub returns : goal.returns
returns g c = rw (line_is c.args.key.now c.hex_text-text.result c.args.name.now c.hex_text-text.ensures) (ends _ _ (first _ c.in_ok-put_all.ensures ▸ c.in_ok-put_all-2.ensures ▸ c.in_ok-put_all-3.ensures) c.put.ensures)
