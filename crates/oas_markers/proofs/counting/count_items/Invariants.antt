use Rattle.std.proofs.Common.{◌≡◌, ◌+◌, ◌<◌, ◌^◌, length}
use Rattle.std.specs.List.Sorted.{IsStrictlySortedBy}
use Rattle.std.specs.Map.{keys_of}
use Rattle.std.specs.Ordering.{nat_cmp}
use Rattle.std.specs.Cmp.Lexicographic.{slice_cmp}
use Rattle.oas_num.specs.Ratio.{Ratio}
use Rattle.oas_difference.specs.Microns.{counted_to}
use Rattle.oas_markers.specs.Held.{held_items}
use Rattle.oas_markers.proofs.counting.count_items.Given as goal

abbrev pub invariant-loop-pair : goal.invariant-loop-pair
invariant-loop-pair l = record {
  count : (u v : Ratio) → counted_to (l.count + length (held_items l.layers u v l.before l.after)) ≡ counted_to (length (held_items l.layers u v l.fn.before l.fn.after));
  fits : l.count < 2 ^ 64;
  before : IsStrictlySortedBy (slice_cmp nat_cmp) (keys_of l.before);
  after : IsStrictlySortedBy (slice_cmp nat_cmp) (keys_of l.after);
}

abbrev pub decreases-loop-pair : goal.decreases-loop-pair
decreases-loop-pair l = length l.before + length l.after
