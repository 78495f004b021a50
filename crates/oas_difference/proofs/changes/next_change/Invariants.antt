use Rattle.std.proofs.Common.{◌≡◌, ◌+◌, ◌≤◌, length}
use Rattle.std.specs.List.Sorted.{IsStrictlySortedBy}
use Rattle.std.specs.Map.{keys_of}
use Rattle.oas_elements.specs.Element.{element_cmp}
use Rattle.oas_difference.specs.Held.{held_changed}
use Rattle.oas_difference.proofs.changes.next_change.Given as goal

abbrev pub invariant-loop-change : goal.invariant-loop-change
invariant-loop-change l = record {
  listed : held_changed l.fn.before l.fn.after ≡ held_changed l.before l.after;
  before : IsStrictlySortedBy element_cmp (keys_of l.before);
  after : IsStrictlySortedBy element_cmp (keys_of l.after);
  fewer : length l.before + length l.after ≤ length l.fn.before + length l.fn.after;
}

abbrev pub decreases-loop-change : goal.decreases-loop-change
decreases-loop-change l = length l.before + length l.after
