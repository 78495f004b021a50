use Rattle.std.proofs.Common.{rules}
use Rattle.oas_judge.proofs.own.own_circle.Goals as goal

pub returns : goal.returns
returns c = search rules
