use Rattle.oas_cells.proofs.SortLemmas.{IsEmptied}
use Rattle.oas_cells.proofs.spreading.empty_parts.Given as goal

abbrev pub invariant-loop : goal.invariant-loop
invariant-loop l = IsEmptied l.parts.items l.counter
