use Rattle.std.proofs.Common.{◌≡◌, ◌∙◌, ◌++◌, List, ℕ, true, false, is_some, sym, subst, rules}
use Rattle.std.specs.List.Sorted.{IsStrictlySortedBy}
use Rattle.std.specs.Map.{keys_of}
use Rattle.std.proofs.lemmas.Result.{err_from_is_err_and}
use Rattle.oas_num.proofs.PuttingLemmas.{begins, fails_at, ends, ◌▸◌}
use Rattle.oas_elements.specs.declared.element.Element.{Element}
use Rattle.oas_elements.specs.Element.{element_cmp}
use Rattle.oas_diff_text.specs.Entries.{cell_entry}
use Rattle.oas_difference.specs.Held.{held_changes, held_cell}
use Rattle.oas_diff_text.proofs.EntryLemmas.{left_is}
use Rattle.oas_difference.proofs.Steps.{sorted_of, only_before, only_after}
use Rattle.oas_difference.proofs.cells.put_cell.Goals as goal

pub put_changes-requires-clause-after : goal.put_changes-requires-clause-after
put_changes-requires-clause-after g c =
    subst (λ (es : List (Element × ℕ)). IsStrictlySortedBy element_cmp (keys_of es)) (sym c.new-after.ensures) (sorted_of c.args.after c.requires.after)

pub put_changes-requires-in-false-true-clause-before : goal.put_changes-requires-in-false-true-clause-before
put_changes-requires-in-false-true-clause-before g c =
    subst (λ (es : List (Element × ℕ)). IsStrictlySortedBy element_cmp (keys_of es)) (sym c.new-before.ensures) (sorted_of c.args.before c.requires.before)

pub returns-in_err-put_cell_entry-in-true-false : goal.returns-in_err-put_cell_entry-in-true-false
returns-in_err-put_cell_entry-in-true-false g c =
    let p = err_from_is_err_and c.from_residual.result c.from_residual.ensures.1 in
    let here : is_some c.args.before ≡ true = search rules in
    let there : is_some c.args.after ≡ false = search rules in
    let whole : held_cell c.args.notation.now (c.args.name.now, (c.args.before, c.args.after)) ≡ cell_entry c.args.notation.now.syntax 45 c.args.name.now
    ++ held_changes c.args.notation.now c.args.name.now c.new-before.result c.new-after.result = only_before c.args.notation.now c.args.name.now c.args.before c.args.after here there
    ∙ (λ i. cell_entry c.args.notation.now.syntax 45 c.args.name.now ++ held_changes c.args.notation.now c.args.name.now (sym c.new-before.ensures i) (sym c.new-after.ensures i)) in
    rw p.1 (fails_at _ (left_is (begins _ _) whole) c.in_err-put_cell_entry-in-true-false.ensures)

pub returns-in_ok-put_cell_entry-in-true-false : goal.returns-in_ok-put_cell_entry-in-true-false
returns-in_ok-put_cell_entry-in-true-false g c =
    let here : is_some c.args.before ≡ true = search rules in
    let there : is_some c.args.after ≡ false = search rules in
    let whole : held_cell c.args.notation.now (c.args.name.now, (c.args.before, c.args.after)) ≡ cell_entry c.args.notation.now.syntax 45 c.args.name.now
    ++ held_changes c.args.notation.now c.args.name.now c.new-before.result c.new-after.result = only_before c.args.notation.now c.args.name.now c.args.before c.args.after here there
    ∙ (λ i. cell_entry c.args.notation.now.syntax 45 c.args.name.now ++ held_changes c.args.notation.now c.args.name.now (sym c.new-before.ensures i) (sym c.new-after.ensures i)) in
    ends _ _ (left_is (begins _ _) whole ▸ c.in_ok-put_cell_entry-in-true-false.ensures) c.put_changes.ensures

pub returns-in_err-put_cell_entry-in-false-true : goal.returns-in_err-put_cell_entry-in-false-true
returns-in_err-put_cell_entry-in-false-true g c =
    let p = err_from_is_err_and c.from_residual-in_err-put_cell_entry-in-false-true.result c.from_residual-in_err-put_cell_entry-in-false-true.ensures.1 in
    let here : is_some c.args.before ≡ false = search rules in
    let there : is_some c.args.after ≡ true = search rules in
    let whole : held_cell c.args.notation.now (c.args.name.now, (c.args.before, c.args.after)) ≡ cell_entry c.args.notation.now.syntax 43 c.args.name.now
    ++ held_changes c.args.notation.now c.args.name.now c.new-before.result c.new-after.result = only_after c.args.notation.now c.args.name.now c.args.before c.args.after here there
    ∙ (λ i. cell_entry c.args.notation.now.syntax 43 c.args.name.now ++ held_changes c.args.notation.now c.args.name.now (sym c.new-before.ensures i) (sym c.new-after.ensures i)) in
    rw p.1 (fails_at _ (left_is (begins _ _) whole) c.in_err-put_cell_entry-in-false-true.ensures)

pub returns-in_ok-put_cell_entry-in-false-true : goal.returns-in_ok-put_cell_entry-in-false-true
returns-in_ok-put_cell_entry-in-false-true g c =
    let here : is_some c.args.before ≡ false = search rules in
    let there : is_some c.args.after ≡ true = search rules in
    let whole : held_cell c.args.notation.now (c.args.name.now, (c.args.before, c.args.after)) ≡ cell_entry c.args.notation.now.syntax 43 c.args.name.now
    ++ held_changes c.args.notation.now c.args.name.now c.new-before.result c.new-after.result = only_after c.args.notation.now c.args.name.now c.args.before c.args.after here there
    ∙ (λ i. cell_entry c.args.notation.now.syntax 43 c.args.name.now ++ held_changes c.args.notation.now c.args.name.now (sym c.new-before.ensures i) (sym c.new-after.ensures i)) in
    ends _ _ (left_is (begins _ _) whole ▸ c.in_ok-put_cell_entry-in-false-true.ensures) c.put_changes-in-false-true.ensures
