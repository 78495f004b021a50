use Rattle.std.proofs.Common.{◌≡◌, ◌+◌, ◌<◌, ◌^◌, length}
use Rattle.std.specs.List.Sorted.{IsStrictlySortedBy}
use Rattle.std.specs.Map.{keys_of}
use Rattle.oas_elements.specs.Element.{element_cmp}
use Rattle.oas_difference.specs.Held.{held_changed}
use Rattle.oas_difference.specs.Microns.{counted_to}
use Rattle.oas_markers.proofs.counting.count_changes.Given as goal

abbrev pub invariant-loop-change : goal.invariant-loop-change
invariant-loop-change l = record {
  count : counted_to (l.count + length (held_changed l.before l.after)) ≡ counted_to (length (held_changed l.fn.before l.fn.after));
  fits : l.count < 2 ^ 64;
  before : IsStrictlySortedBy element_cmp (keys_of l.before);
  after : IsStrictlySortedBy element_cmp (keys_of l.after);
}

abbrev pub decreases-loop-change : goal.decreases-loop-change
decreases-loop-change l = length l.before + length l.after
