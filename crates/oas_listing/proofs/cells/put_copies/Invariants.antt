use Rattle.std.proofs.Common.{drop, flat_map, replicate}
use Rattle.oas_listing.specs.Listing.{element_line}
use Rattle.oas_num.proofs.PuttingLemmas.{PutSoFar}
use Rattle.oas_listing.proofs.cells.put_copies.Given as goal

abbrev pub invariant-loop : goal.invariant-loop
invariant-loop g l =
    PutSoFar g.K.Sink.given g.K.Sink.failures (flat_map element_line (replicate l.times l.element)) (flat_map element_line (drop l.counter (replicate l.times l.element))) l.fn.sink l.sink
