use Rattle.std.proofs.Common.{◌≡◌, ◌∙◌, ◌++◌, List, sym, subst}
use Rattle.oas_num.proofs.PuttingLemmas.{begins, ends, fails_at, ◌▸◌}
use Rattle.std.proofs.lemmas.Result.{err_from_is_err_and}
use Rattle.std.specs.Ordering.{nat_cmp}
use Rattle.std.specs.Cmp.Lexicographic.{slice_cmp}
use Rattle.std.specs.List.Sorted.{IsStrictlySortedBy}
use Rattle.std.specs.Map.{keys_of}
use Rattle.oas_elements.specs.Contents.{Cell, meaning_of}
use Rattle.oas_difference.specs.Difference.{unit_changes}
use Rattle.oas_difference.specs.Format.{notation_of}
use Rattle.oas_difference.specs.Options.{compared}
use Rattle.oas_difference.specs.Held.{held_lines}
use Rattle.oas_difference.proofs.Chosen.{sorted_cells}
use Rattle.oas_difference.proofs.Compared.{compared_held, compared_short}
use Rattle.oas_diff_text.proofs.EntryLemmas.{left_is}
use Rattle.oas_difference.proofs.writing.put_compared.Goals as goal

pub returns-in_err-put_units-clause-short : goal.returns-in_err-put_units-clause-short
returns-in_err-put_units-clause-short g c =
    compared_short c.args.options c.args.before.now c.args.after.now c.new-left.ensures.layout c.new-right.ensures.layout c.requires

pub returns-clause-short : goal.returns-clause-short
returns-clause-short g c =
    compared_short c.args.options c.args.before.now c.args.after.now c.new-left.ensures.layout c.new-right.ensures.layout c.requires

pub returns-clause-writes : goal.returns-clause-writes
returns-clause-writes g c =
    let a = c.args.before.now in
    let b = c.args.after.now in
    let o = c.args.options in
    let notation : notation_of o.format a.unit b.unit ≡ c.new-notation.result =
    (λ i. notation_of o.format (sym c.unit.ensures i) (sym c.unit-2.ensures i)) ∙ sym c.new-notation.ensures in
    let whole : compared o a.profile (meaning_of a) (meaning_of b) ≡ unit_changes o.format.syntax c.unit-3.result c.unit-4.result
    ++ held_lines o.choice.layers o.detail c.new-notation.result c.new-left.result c.new-right.result =
    compared_held o a b c.new-left.ensures.layout c.new-right.ensures.layout c.requires
    ∙ (λ i. unit_changes o.format.syntax (sym c.unit-3.ensures i) (sym c.unit-4.ensures i)
    ++ held_lines o.choice.layers o.detail (notation i) (sym c.new-left.ensures.cells i) (sym c.new-right.ensures.cells i)) in
    ends _ _ (left_is (begins _ _) whole ▸ c.in_ok-put_units.ensures) c.put_cells.ensures

pub returns-in_err-put_units-clause-writes : goal.returns-in_err-put_units-clause-writes
returns-in_err-put_units-clause-writes g c =
    let a = c.args.before.now in
    let b = c.args.after.now in
    let o = c.args.options in
    let notation : notation_of o.format a.unit b.unit ≡ c.new-notation.result =
    (λ i. notation_of o.format (sym c.unit.ensures i) (sym c.unit-2.ensures i)) ∙ sym c.new-notation.ensures in
    let whole : compared o a.profile (meaning_of a) (meaning_of b) ≡ unit_changes o.format.syntax c.unit-3.result c.unit-4.result
    ++ held_lines o.choice.layers o.detail c.new-notation.result c.new-left.result c.new-right.result =
    compared_held o a b c.new-left.ensures.layout c.new-right.ensures.layout c.requires
    ∙ (λ i. unit_changes o.format.syntax (sym c.unit-3.ensures i) (sym c.unit-4.ensures i)
    ++ held_lines o.choice.layers o.detail (notation i) (sym c.new-left.ensures.cells i) (sym c.new-right.ensures.cells i)) in
    let p = err_from_is_err_and c.from_residual.result c.from_residual.ensures.1 in
    rw p.1 (fails_at _ (left_is (begins _ _) whole) c.in_err-put_units.ensures)

pub put_cells-requires-clause-before : goal.put_cells-requires-clause-before
put_cells-requires-clause-before g c =
    subst (λ (cs : List Cell). IsStrictlySortedBy (slice_cmp nat_cmp) (keys_of cs)) (sym c.new-left.ensures.cells)
    (sorted_cells c.args.options.choice c.args.before.now c.new-left.ensures.layout)

pub put_cells-requires-clause-after : goal.put_cells-requires-clause-after
put_cells-requires-clause-after g c =
    subst (λ (cs : List Cell). IsStrictlySortedBy (slice_cmp nat_cmp) (keys_of cs)) (sym c.new-right.ensures.cells)
    (sorted_cells c.args.options.choice c.args.after.now c.new-right.ensures.layout)
