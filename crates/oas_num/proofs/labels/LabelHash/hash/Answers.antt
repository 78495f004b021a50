use Rattle.std.proofs.Common.{rules}
use Rattle.oas_num.proofs.labels.LabelHash.hash.Goals as goal

pub returns : goal.returns
returns g c = search rules
