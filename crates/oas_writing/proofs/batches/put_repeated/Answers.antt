use Rattle.std.proofs.lemmas.Result.{err_from_is_err_and}
use Rattle.oas_writing.proofs.RepeatLemmas.{once_fails, once_put}
use Rattle.oas_writing.proofs.batches.put_repeated.Goals as goal

pub returns-in_err-put_all : goal.returns-in_err-put_all
returns-in_err-put_all g c =
    let p = err_from_is_err_and c.from_residual.result c.from_residual.ensures.1 in
    rw p.1 (once_fails c.args.bytes.now c.args.times c.loop.counter c.loop-test.true c.loop.invariant c.in_err-put_all.ensures)

pub loop-preserved : goal.loop-preserved
loop-preserved g c = once_put c.args.bytes.now c.args.times c.loop.counter c.loop-test.true c.loop.invariant c.in_ok-put_all.ensures
