use Rattle.std.proofs.Common.{◌+◌, length}
use Rattle.std.specs.Ordering.{nat_cmp}
use Rattle.std.specs.Cmp.Lexicographic.{slice_cmp}
use Rattle.std.specs.List.Sorted.{IsStrictlySortedBy}
use Rattle.std.specs.Map.{keys_of}
use Rattle.oas_num.proofs.PuttingLemmas.{PutSoFar}
use Rattle.oas_difference.specs.Held.{held_lines}
use Rattle.oas_difference.proofs.cells.put_cells.Given as goal

abbrev pub invariant-loop-pair : goal.invariant-loop-pair
invariant-loop-pair g l = record {
  put : PutSoFar g.K.Sink.given g.K.Sink.failures (held_lines l.layers l.detail l.notation l.fn.before l.fn.after) (held_lines l.layers l.detail l.notation l.before l.after) l.fn.sink l.sink;
  before : IsStrictlySortedBy (slice_cmp nat_cmp) (keys_of l.before);
  after : IsStrictlySortedBy (slice_cmp nat_cmp) (keys_of l.after);
}

abbrev pub decreases-loop-pair : goal.decreases-loop-pair
decreases-loop-pair g l = length l.before + length l.after
