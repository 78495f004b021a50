use Rattle.std.proofs.Common.{rules}
use Rattle.oas_bytes.proofs.slices.SliceSourceSource.at.Goals as goal

pub returns : goal.returns
returns c = search rules
