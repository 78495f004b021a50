use Rattle.std.proofs.Common.{arith}
use Rattle.std.proofs.lemmas.Grind.{common_steps}
use Rattle.oas_checksum.proofs.sources.SummedSource.finish.Goals as goal

pub returns-clause-sums : goal.returns-clause-sums
returns-clause-sums g c = grind (arith, common_steps)
