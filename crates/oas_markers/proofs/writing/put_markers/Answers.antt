use Rattle.std.proofs.Common.{◌≡◌, ◌∙◌, ◌++◌, List, sym, subst}
use Rattle.std.specs.Ordering.{nat_cmp}
use Rattle.std.specs.Cmp.Lexicographic.{slice_cmp}
use Rattle.std.specs.List.Sorted.{IsStrictlySortedBy}
use Rattle.std.specs.Map.{keys_of}
use Rattle.std.proofs.lemmas.Result.{err_from_is_err_and}
use Rattle.oas_num.proofs.PuttingLemmas.{begins, ends, fails_at, ◌▸◌}
use Rattle.oas_elements.specs.Contents.{Cell, meaning_of}
use Rattle.oas_difference.specs.Choice.{chosen}
use Rattle.oas_difference.proofs.Chosen.{sorted_cells}
use Rattle.oas_markers.specs.Markers.{head, first_items, markers}
use Rattle.oas_markers.specs.Held.{held_entries, held_items}
use Rattle.oas_markers.proofs.HeldLemmas.{between, foot, chosen_markers}
use Rattle.oas_difference.proofs.EntryLemmas.{left_is}
use Rattle.oas_markers.proofs.writing.put_markers.Goals as goal

pub put_entries-requires-clause-before : goal.put_entries-requires-clause-before
put_entries-requires-clause-before g c =
    subst (λ (cs : List Cell). IsStrictlySortedBy (slice_cmp nat_cmp) (keys_of cs)) (sym c.new-entries_before.ensures.cells)
    (sorted_cells c.args.choice c.args.before.now c.new-entries_before.ensures.layout)

pub put_entries-requires-clause-after : goal.put_entries-requires-clause-after
put_entries-requires-clause-after g c =
    subst (λ (cs : List Cell). IsStrictlySortedBy (slice_cmp nat_cmp) (keys_of cs)) (sym c.new-entries_after.ensures.cells)
    (sorted_cells c.args.choice c.args.after.now c.new-entries_after.ensures.layout)

pub put_body-requires-clause-before : goal.put_body-requires-clause-before
put_body-requires-clause-before g c =
    subst (λ (cs : List Cell). IsStrictlySortedBy (slice_cmp nat_cmp) (keys_of cs)) (sym c.new-items_before.ensures.cells)
    (sorted_cells c.args.choice c.args.before.now c.new-items_before.ensures.layout)

pub put_body-requires-clause-after : goal.put_body-requires-clause-after
put_body-requires-clause-after g c =
    subst (λ (cs : List Cell). IsStrictlySortedBy (slice_cmp nat_cmp) (keys_of cs)) (sym c.new-items_after.ensures.cells)
    (sorted_cells c.args.choice c.args.after.now c.new-items_after.ensures.layout)

pub returns-in_err-put_head : goal.returns-in_err-put_head
returns-in_err-put_head g c =
    let p = err_from_is_err_and c.from_residual.result c.from_residual.ensures.1 in
    let a = c.args.before.now in
    let b = c.args.after.now in
    let whole : markers c.args.most c.args.choice.layers a.profile (chosen c.args.choice (meaning_of a)) (chosen c.args.choice (meaning_of b))
    ≡ head c.unit-gone.result c.unit-come.result c.args.most c.count_markers-count.result
    ++ (held_entries c.args.choice.layers c.new-entries_before.result c.new-entries_after.result
    ++ (between ++ (first_items c.args.most (held_items c.args.choice.layers c.unit-gone.result c.unit-come.result c.new-items_before.result c.new-items_after.result) ++ foot))) =
    chosen_markers c.args.choice c.args.most a b c.new-entries_before.ensures.layout c.new-entries_after.ensures.layout c.requires
    ∙ (λ i. head (sym c.unit-gone.ensures i) (sym c.unit-come.ensures i) c.args.most (sym (c.count_markers-count.ensures a.unit b.unit) i)
    ++ (held_entries c.args.choice.layers (sym c.new-entries_before.ensures.cells i) (sym c.new-entries_after.ensures.cells i)
    ++ (between ++ (first_items c.args.most (held_items c.args.choice.layers (sym c.unit-gone.ensures i) (sym c.unit-come.ensures i) (sym c.new-items_before.ensures.cells i)
    (sym c.new-items_after.ensures.cells i)) ++ foot)))) in
    rw p.1 (fails_at _ (left_is (begins _ _) whole) c.in_err-put_head.ensures)

pub returns-in_err-put_entries : goal.returns-in_err-put_entries
returns-in_err-put_entries g c =
    let p = err_from_is_err_and c.from_residual-in_err-put_entries.result c.from_residual-in_err-put_entries.ensures.1 in
    let a = c.args.before.now in
    let b = c.args.after.now in
    let whole : markers c.args.most c.args.choice.layers a.profile (chosen c.args.choice (meaning_of a)) (chosen c.args.choice (meaning_of b))
    ≡ head c.unit-gone.result c.unit-come.result c.args.most c.count_markers-count.result
    ++ (held_entries c.args.choice.layers c.new-entries_before.result c.new-entries_after.result
    ++ (between ++ (first_items c.args.most (held_items c.args.choice.layers c.unit-gone.result c.unit-come.result c.new-items_before.result c.new-items_after.result) ++ foot))) =
    chosen_markers c.args.choice c.args.most a b c.new-entries_before.ensures.layout c.new-entries_after.ensures.layout c.requires
    ∙ (λ i. head (sym c.unit-gone.ensures i) (sym c.unit-come.ensures i) c.args.most (sym (c.count_markers-count.ensures a.unit b.unit) i)
    ++ (held_entries c.args.choice.layers (sym c.new-entries_before.ensures.cells i) (sym c.new-entries_after.ensures.cells i)
    ++ (between ++ (first_items c.args.most (held_items c.args.choice.layers (sym c.unit-gone.ensures i) (sym c.unit-come.ensures i) (sym c.new-items_before.ensures.cells i)
    (sym c.new-items_after.ensures.cells i)) ++ foot)))) in
    rw p.1 (fails_at _ (left_is (begins _ _) whole ▸ c.in_ok-put_head.ensures) c.in_err-put_entries.ensures)

pub returns : goal.returns
returns g c =
    let a = c.args.before.now in
    let b = c.args.after.now in
    let whole : markers c.args.most c.args.choice.layers a.profile (chosen c.args.choice (meaning_of a)) (chosen c.args.choice (meaning_of b))
    ≡ head c.unit-gone.result c.unit-come.result c.args.most c.count_markers-count.result
    ++ (held_entries c.args.choice.layers c.new-entries_before.result c.new-entries_after.result
    ++ (between ++ (first_items c.args.most (held_items c.args.choice.layers c.unit-gone.result c.unit-come.result c.new-items_before.result c.new-items_after.result) ++ foot))) =
    chosen_markers c.args.choice c.args.most a b c.new-entries_before.ensures.layout c.new-entries_after.ensures.layout c.requires
    ∙ (λ i. head (sym c.unit-gone.ensures i) (sym c.unit-come.ensures i) c.args.most (sym (c.count_markers-count.ensures a.unit b.unit) i)
    ++ (held_entries c.args.choice.layers (sym c.new-entries_before.ensures.cells i) (sym c.new-entries_after.ensures.cells i)
    ++ (between ++ (first_items c.args.most (held_items c.args.choice.layers (sym c.unit-gone.ensures i) (sym c.unit-come.ensures i) (sym c.new-items_before.ensures.cells i)
    (sym c.new-items_after.ensures.cells i)) ++ foot)))) in
    ends _ _ (left_is (begins _ _) whole ▸ c.in_ok-put_head.ensures ▸ c.in_ok-put_entries.ensures) c.put_body.ensures
