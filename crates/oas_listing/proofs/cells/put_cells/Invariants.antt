use Rattle.std.proofs.Common.{flat_map}
use Rattle.oas_elements.specs.Contents.{expanded}
use Rattle.oas_listing.specs.Listing.{cell_lines}
use Rattle.oas_num.proofs.PuttingLemmas.{PutSoFar}
use Rattle.oas_listing.proofs.cells.put_cells.Given as goal

abbrev pub invariant-loop-name : goal.invariant-loop-name
invariant-loop-name g l =
    PutSoFar g.K.Sink.given g.K.Sink.failures (flat_map cell_lines (expanded l.fn.cells)) (flat_map cell_lines (expanded l.name-iterator)) l.fn.sink l.sink
