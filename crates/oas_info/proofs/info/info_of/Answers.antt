use Rattle.std.proofs.Common.{rules}
use Rattle.oas_info.proofs.info.info_of.Goals as goal

pub returns : goal.returns
returns c = search rules
