use Rattle.std.proofs.lemmas.Result.{err_from_is_err_and}
use Rattle.oas_markers.specs.Texts.{quote}
use Rattle.oas_num.proofs.PuttingLemmas.{item_put, item_fails}
use Rattle.oas_markers.proofs.texts.put_quoted.Goals as goal

pub returns-in_err-put_quote : goal.returns-in_err-put_quote
returns-in_err-put_quote g c =
    let p = err_from_is_err_and c.from_residual.result c.from_residual.ensures.1 in
    rw p.1 (item_fails (quote) c.args.bytes.now c.loop-byte.byte-index 0 c.loop-byte-test.true c.loop-byte.invariant c.in_err-put_quote.ensures)

pub loop-byte-preserved : goal.loop-byte-preserved
loop-byte-preserved g c =
    item_put (quote) c.args.bytes.now c.loop-byte.byte-index 0 c.loop-byte-test.true c.loop-byte.invariant c.in_ok-put_quote.ensures
