use Rattle.std.proofs.Common.{List, ℕ, sym, subst}
use Rattle.std.specs.List.Sorted.{IsStrictlySortedBy}
use Rattle.std.specs.Map.{keys_of}
use Rattle.oas_elements.specs.declared.element.Element.{Element}
use Rattle.oas_elements.specs.Element.{element_cmp}
use Rattle.oas_difference.proofs.Steps.{sorted_of}
use Rattle.oas_markers.proofs.Firsts.{cell_count}
use Rattle.oas_markers.proofs.counting.count_cell.Goals as goal

pub count_changes-requires-clause-before : goal.count_changes-requires-clause-before
count_changes-requires-clause-before c =
    subst (λ (es : List (Element × ℕ)). IsStrictlySortedBy element_cmp (keys_of es)) (sym c.new.ensures) (sorted_of c.args.pair.before c.requires.before)

pub count_changes-requires-clause-after : goal.count_changes-requires-clause-after
count_changes-requires-clause-after c =
    subst (λ (es : List (Element × ℕ)). IsStrictlySortedBy element_cmp (keys_of es)) (sym c.new-2.ensures) (sorted_of c.args.pair.after c.requires.after)

pub returns : goal.returns
returns c =
    let pair = c.args.pair in
    λ u v. cell_count u v (pair.name.now, (pair.before, pair.after)) c.new.result c.new-2.result c.is_some.result c.is_some-2.result c.count_changes.result
    c.count_alone-alone.result c.saturating_add.result c.new.ensures c.new-2.ensures c.is_some.ensures c.is_some-2.ensures c.count_changes.ensures
    (c.count_alone-alone.ensures pair.name.now) c.saturating_add.ensures
