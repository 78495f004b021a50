use Rattle.std.proofs.Common.{rules}
use Rattle.oas_layout.proofs.layout.Layout.limits.Goals as goal

pub returns : goal.returns
returns c = search rules
