use Rattle.std.proofs.Common.{flat_map}
use Rattle.oas_elements.specs.Bag.{items}
use Rattle.oas_listing.specs.Listing.{element_line}
use Rattle.oas_num.proofs.PuttingLemmas.{PutSoFar}
use Rattle.oas_listing.proofs.cells.put_elements.Given as goal

abbrev pub invariant-loop-element : goal.invariant-loop-element
invariant-loop-element g l =
    PutSoFar g.K.Sink.given g.K.Sink.failures (flat_map element_line (items l.fn.elements)) (flat_map element_line (items l.element-iterator)) l.fn.sink l.sink
