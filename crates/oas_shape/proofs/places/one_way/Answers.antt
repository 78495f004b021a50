use Rattle.std.proofs.Common.{rules}
use Rattle.oas_shape.proofs.places.one_way.Goals as goal

pub returns-then-still : goal.returns-then-still
returns-then-still c = search rules
