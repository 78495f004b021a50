use Rattle.std.proofs.Common.{rules}
use Rattle.oas_bytes.proofs.slices.SliceSource.new.Goals as goal

pub returns : goal.returns
returns c = search rules
