use Rattle.std.proofs.lemmas.Result.{err_from_is_err_and}
use Rattle.oas_diff_text.specs.Fields.{escape}
use Rattle.oas_num.proofs.PuttingLemmas.{item_put, item_fails}
use Rattle.oas_diff_text.proofs.json.put_escaped.Goals as goal

pub returns-in_err-put_escape : goal.returns-in_err-put_escape
returns-in_err-put_escape g c =
    let p = err_from_is_err_and c.from_residual.result c.from_residual.ensures.1 in
    rw p.1 (item_fails (escape) c.args.bytes.now c.loop-byte.byte-index 0 c.loop-byte-test.true c.loop-byte.invariant c.in_err-put_escape.ensures)

pub loop-byte-preserved : goal.loop-byte-preserved
loop-byte-preserved g c =
    item_put (escape) c.args.bytes.now c.loop-byte.byte-index 0 c.loop-byte-test.true c.loop-byte.invariant c.in_ok-put_escape.ensures
