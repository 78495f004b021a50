use Rattle.std.proofs.Common.{◌≡◌, ◌+◌, length}
use Rattle.std.specs.Prelude.{◌-◌}
use Rattle.std.specs.List.Sorted.{IsStrictlySortedBy}
use Rattle.std.specs.Map.{keys_of}
use Rattle.oas_num.proofs.PuttingLemmas.{PutSoFar}
use Rattle.oas_elements.specs.Element.{element_cmp}
use Rattle.oas_markers.specs.Markers.{first_items}
use Rattle.oas_markers.specs.Held.{change_items}
use Rattle.oas_markers.proofs.cells.put_changes.Given as goal

abbrev pub invariant-loop-change : goal.invariant-loop-change
invariant-loop-change g l = record {
  put : PutSoFar g.K.Sink.given g.K.Sink.failures (first_items l.fn.left (change_items l.gone l.come l.name l.fn.before l.fn.after))
      (first_items l.left (change_items l.gone l.come l.name l.before l.after)) l.fn.sink l.sink;
  left : l.left - length (change_items l.gone l.come l.name l.before l.after) ≡ l.fn.left - length (change_items l.gone l.come l.name l.fn.before l.fn.after);
  before : IsStrictlySortedBy element_cmp (keys_of l.before);
  after : IsStrictlySortedBy element_cmp (keys_of l.after);
}

abbrev pub decreases-loop-change : goal.decreases-loop-change
decreases-loop-change g l = length l.before + length l.after
