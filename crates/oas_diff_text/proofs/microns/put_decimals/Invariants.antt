use Rattle.std.proofs.Common.{◌<◌}
use Rattle.oas_num.proofs.PuttingLemmas.{PutSoFar}
use Rattle.oas_diff_text.specs.Microns.{decimals}
use Rattle.oas_diff_text.proofs.microns.put_decimals.Given as goal

abbrev pub invariant-loop-left : goal.invariant-loop-left
invariant-loop-left g l = record {
  put : PutSoFar g.K.Sink.given g.K.Sink.failures (decimals l.den 64 l.fn.rest) (decimals l.den l.left l.rest) l.fn.sink l.sink;
  below : l.rest < l.den;
}

abbrev pub decreases-loop-left : goal.decreases-loop-left
decreases-loop-left g l = l.left
