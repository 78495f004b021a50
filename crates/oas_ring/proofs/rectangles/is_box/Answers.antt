use Rattle.std.proofs.Common.{rules}
use Rattle.oas_ring.proofs.rectangles.is_box.Goals as goal

pub returns-then-corners-2 : goal.returns-then-corners-2
returns-then-corners-2 c = search rules
