use Rattle.std.proofs.Common.{arith}
use Rattle.std.proofs.lemmas.Grind.{common_steps}
use Rattle.oas_bytes.proofs.sinks.CounterSink.put.Goals as goal

pub returns : goal.returns
returns c = grind (arith, common_steps)
