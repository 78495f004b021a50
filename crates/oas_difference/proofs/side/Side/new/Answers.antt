use Rattle.std.proofs.Common.{rules}
use Rattle.oas_difference.proofs.side.Side.new.Goals as goal

pub returns : goal.returns
returns c = search rules
