use Rattle.std.proofs.Common.{rules}
use Rattle.oas_checksum.proofs.sums.Sums.crc32.Goals as goal

pub returns : goal.returns
returns c = search rules
