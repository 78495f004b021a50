use Rattle.std.proofs.Common.{length}
use Rattle.oas_layout.proofs.RunLemmas.{Looped}
use Rattle.oas_layout.proofs.finishing.runs_of.Given as goal

abbrev pub invariant-loop-cell : goal.invariant-loop-cell
invariant-loop-cell g l = Looped g.P.KeptBy.profile l.names.named l.strings.named l.fn.cells.items l.left.items l.runs.items

abbrev pub decreases-loop-cell : goal.decreases-loop-cell
decreases-loop-cell g l = length l.left.items
