use Rattle.oas_cells.proofs.SortLemmas.{once_drawn}
use Rattle.oas_cells.proofs.sorting.sorted_chunk.Goals as goal

pub returns-clause-once : goal.returns-clause-once
returns-clause-once c = once_drawn c.in_ok-shorts.shorts.items
