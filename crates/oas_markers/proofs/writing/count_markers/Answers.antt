use Rattle.std.proofs.Common.{◌∙◌, length, sym, subst}
use Rattle.std.specs.Ordering.{nat_cmp}
use Rattle.std.specs.Cmp.Lexicographic.{slice_cmp}
use Rattle.std.specs.List.Sorted.{IsStrictlySortedBy}
use Rattle.std.specs.Map.{keys_of}
use Rattle.std.proofs.Common.{List}
use Rattle.oas_elements.specs.Contents.{Cell}
use Rattle.oas_difference.proofs.Chosen.{sorted_cells}
use Rattle.oas_difference.specs.Microns.{counted_to}
use Rattle.oas_markers.specs.Held.{held_items}
use Rattle.oas_markers.proofs.writing.count_markers.Goals as goal

pub count_items-requires-clause-before : goal.count_items-requires-clause-before
count_items-requires-clause-before c =
    subst (λ (cs : List Cell). IsStrictlySortedBy (slice_cmp nat_cmp) (keys_of cs)) (sym c.new-cells_before.ensures.cells)
    (sorted_cells c.args.choice c.args.before.now c.new-cells_before.ensures.layout)

pub count_items-requires-clause-after : goal.count_items-requires-clause-after
count_items-requires-clause-after c =
    subst (λ (cs : List Cell). IsStrictlySortedBy (slice_cmp nat_cmp) (keys_of cs)) (sym c.new-cells_after.ensures.cells)
    (sorted_cells c.args.choice c.args.after.now c.new-cells_after.ensures.layout)

pub returns : goal.returns
returns c = λ u v. c.count_items.ensures u v ∙ (λ i. counted_to (length (held_items c.args.choice.layers u v (c.new-cells_before.ensures.cells i) (c.new-cells_after.ensures.cells i))))
