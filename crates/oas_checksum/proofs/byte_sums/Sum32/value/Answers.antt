use Rattle.std.proofs.Common.{rules}
use Rattle.oas_checksum.proofs.byte_sums.Sum32.value.Goals as goal

pub returns : goal.returns
returns c = search rules
