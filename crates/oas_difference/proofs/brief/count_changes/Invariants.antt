use Rattle.std.proofs.Common.{◌≡◌, ◌+◌, ◌<◌, ◌^◌, length}
use Rattle.std.specs.List.Sorted.{IsStrictlySortedBy}
use Rattle.std.specs.Map.{keys_of}
use Rattle.oas_elements.specs.Element.{element_cmp}
use Rattle.oas_difference.specs.Brief.{only_first, only_second}
use Rattle.oas_difference.specs.Held.{held_changed}
use Rattle.oas_diff_text.specs.Microns.{counted_to}
use Rattle.oas_difference.proofs.brief.count_changes.Given as goal

abbrev pub invariant-loop-change : goal.invariant-loop-change
invariant-loop-change l = record {
  first : counted_to (l.excess.before + only_first (held_changed l.before l.after)) ≡ counted_to (only_first (held_changed l.fn.before l.fn.after));
  second : counted_to (l.excess.after + only_second (held_changed l.before l.after)) ≡ counted_to (only_second (held_changed l.fn.before l.fn.after));
  first_fits : l.excess.before < 2 ^ 64;
  second_fits : l.excess.after < 2 ^ 64;
  before : IsStrictlySortedBy element_cmp (keys_of l.before);
  after : IsStrictlySortedBy element_cmp (keys_of l.after);
}

abbrev pub decreases-loop-change : goal.decreases-loop-change
decreases-loop-change l = length l.before + length l.after
