use Rattle.std.proofs.Common.{◌≡◌, length}
use Rattle.std.specs.Vec.Iter.{into_iter_items}
use Rattle.oas_runs.specs.Blocks.{joined}
use Rattle.oas_cells.proofs.SortLemmas.{Spreading}
use Rattle.oas_cells.proofs.spreading.spread_row.Given as goal

abbrev pub invariant-loop-chunk : goal.invariant-loop-chunk
invariant-loop-chunk l = record {
  sums : Spreading l.initial.parts l.parts (joined l.fn.row.items) (joined (into_iter_items l.chunk-iterator));
  len : length l.parts ≡ length l.initial.parts;
}
