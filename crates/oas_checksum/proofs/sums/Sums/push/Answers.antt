use Rattle.std.proofs.Common.{rules}
use Rattle.oas_checksum.proofs.sums.Sums.push.Goals as goal

pub returns : goal.returns
returns c = search rules
