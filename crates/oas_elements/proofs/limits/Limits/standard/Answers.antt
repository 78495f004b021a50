use Rattle.std.proofs.Common.{rules}
use Rattle.oas_elements.proofs.limits.Limits.standard.Goals as goal

pub returns : goal.returns
returns c = search rules
