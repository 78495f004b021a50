use Rattle.std.proofs.Common.{◌≡◌}
use Rattle.oas_difference.specs.Held.{cells_chosen}
use Rattle.oas_difference.proofs.cells.first_chosen.Given as goal

abbrev pub invariant-loop-name : goal.invariant-loop-name
invariant-loop-name l = cells_chosen l.choice l.fn.cells ≡ cells_chosen l.choice l.cells
