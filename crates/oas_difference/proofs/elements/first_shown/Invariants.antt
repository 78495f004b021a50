use Rattle.std.proofs.Common.{◌≡◌}
use Rattle.oas_difference.specs.Held.{elements_shown}
use Rattle.oas_difference.proofs.elements.first_shown.Given as goal

abbrev pub invariant-loop-pair : goal.invariant-loop-pair
invariant-loop-pair l = elements_shown l.layers l.fn.elements ≡ elements_shown l.layers l.elements
