use Rattle.std.proofs.Common.{rules}
use Rattle.oas_narrow.proofs.dropping.Dropping.has.Goals as goal

pub returns-in-LayerName : goal.returns-in-LayerName
returns-in-LayerName c = search rules
