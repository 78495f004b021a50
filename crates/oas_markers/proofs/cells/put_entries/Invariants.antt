use Rattle.std.proofs.Common.{◌+◌, length}
use Rattle.std.specs.List.Sorted.{IsStrictlySortedBy}
use Rattle.std.specs.Map.{keys_of}
use Rattle.oas_num.proofs.PuttingLemmas.{PutSoFar}
use Rattle.std.specs.Ordering.{nat_cmp}
use Rattle.std.specs.Cmp.Lexicographic.{slice_cmp}
use Rattle.oas_markers.specs.Held.{held_entries}
use Rattle.oas_markers.proofs.cells.put_entries.Given as goal

abbrev pub invariant-loop-pair : goal.invariant-loop-pair
invariant-loop-pair g l = record {
  put : PutSoFar g.K.Sink.given g.K.Sink.failures (held_entries l.layers l.fn.before l.fn.after) (held_entries l.layers l.before l.after) l.fn.sink l.sink;
  before : IsStrictlySortedBy (slice_cmp nat_cmp) (keys_of l.before);
  after : IsStrictlySortedBy (slice_cmp nat_cmp) (keys_of l.after);
}

abbrev pub decreases-loop-pair : goal.decreases-loop-pair
decreases-loop-pair g l = length l.before + length l.after
