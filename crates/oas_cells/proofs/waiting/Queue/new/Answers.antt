use Rattle.oas_reader.proofs.HeldLemmas.{IsHeld-empty}
use Rattle.oas_cells.proofs.waiting.Queue.new.Goals as goal

pub invariant_of-result : goal.invariant_of-result
invariant_of-result c = IsHeld-empty c.new-2.result.entries c.new-2.ensures.empty
