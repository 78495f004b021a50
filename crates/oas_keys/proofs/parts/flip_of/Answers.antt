use Rattle.std.proofs.Common.{rules}
use Rattle.oas_keys.proofs.parts.flip_of.Goals as goal

pub returns : goal.returns
returns c = search rules
