use Rattle.std.proofs.Common.{◌+◌, length}
use Rattle.std.specs.List.Sorted.{IsStrictlySortedBy}
use Rattle.std.specs.Map.{keys_of}
use Rattle.oas_num.proofs.PuttingLemmas.{PutSoFar}
use Rattle.oas_elements.specs.Element.{element_cmp}
use Rattle.oas_difference.specs.Held.{held_changes}
use Rattle.oas_difference.proofs.changes.put_changes.Given as goal

abbrev pub invariant-loop-change : goal.invariant-loop-change
invariant-loop-change g l = record {
  put : PutSoFar g.K.Sink.given g.K.Sink.failures (held_changes l.notation l.name l.fn.before l.fn.after) (held_changes l.notation l.name l.before l.after) l.fn.sink l.sink;
  before : IsStrictlySortedBy element_cmp (keys_of l.before);
  after : IsStrictlySortedBy element_cmp (keys_of l.after);
}

abbrev pub decreases-loop-change : goal.decreases-loop-change
decreases-loop-change g l = length l.before + length l.after
