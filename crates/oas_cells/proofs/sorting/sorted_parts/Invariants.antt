use Rattle.std.proofs.Common.{◌++◌}
use Rattle.std.specs.Vec.Iter.{into_iter_items}
use Rattle.oas_runs.specs.Blocks.{joined}
use Rattle.oas_cells.specs.Compact.{SameWaiting}
use Rattle.oas_cells.specs.Spreading.{AllOnce}
use Rattle.oas_cells.proofs.sorting.sorted_parts.Given as goal

-- what is sorted, and what is left
abbrev pub invariant-loop-part : goal.invariant-loop-part
invariant-loop-part l = record {
  same : SameWaiting (joined l.row.items ++ joined (into_iter_items l.part-iterator)) (joined l.fn.parts.items);
  once : AllOnce (joined l.row.items);
}
