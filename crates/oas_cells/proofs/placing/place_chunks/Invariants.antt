use Rattle.std.specs.Vec.Iter.{into_iter_items}
use Rattle.oas_runs.specs.Blocks.{joined}
use Rattle.oas_cells.proofs.PlaceLemmas.{Placing}
use Rattle.oas_cells.proofs.placing.place_chunks.Given as goal

abbrev pub invariant-loop-chunk : goal.invariant-loop-chunk
invariant-loop-chunk l =
    Placing l.profile l.names.named l.strings.named l.initial.kept l.kept (joined l.fn.chunks.items) (joined (into_iter_items l.chunk-iterator))
