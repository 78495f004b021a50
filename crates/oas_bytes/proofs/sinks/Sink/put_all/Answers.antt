use Rattle.std.proofs.Common.{arith}
use Rattle.std.proofs.lemmas.Result.{err_from_is_err_and}
use Rattle.oas_bytes.proofs.WritingLemmas.{all_fails}
use Rattle.oas_bytes.proofs.sinks.Sink.put_all.Goals as goal

pub returns-in_err-put : goal.returns-in_err-put
returns-in_err-put g c =
    let p = err_from_is_err_and c.from_residual.result c.from_residual.ensures.1 in
    rw p.1 (all_fails _ _ _ _ _ c.args.bytes.now c.loop-byte.byte-index (omega arith) c.loop-byte.invariant c.in_err-put.ensures)
