use Rattle.oas_keys.proofs.PartLemmas.{still_free}
use Rattle.oas_keys.proofs.parts.has_no_zero.Goals as goal

pub loop-byte-preserved : goal.loop-byte-preserved
loop-byte-preserved c = still_free c.loop-byte.none c.args.bytes.now c.loop-byte.byte-index c.loop-byte-test.true c.loop-byte.invariant
