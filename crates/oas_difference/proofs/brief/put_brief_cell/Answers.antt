use Rattle.std.proofs.Common.{ℕ, List, sym, subst}
use Rattle.std.specs.List.Sorted.{IsStrictlySortedBy}
use Rattle.std.specs.Map.{keys_of}
use Rattle.oas_num.specs.Writing.{Writes}
use Rattle.oas_elements.specs.declared.element.Element.{Element}
use Rattle.oas_elements.specs.Element.{element_cmp}
use Rattle.oas_difference.proofs.Steps.{sorted_of, brief_is}
use Rattle.oas_difference.proofs.brief.put_brief_cell.Goals as goal

pub count_changes-excess-requires-clause-before : goal.count_changes-excess-requires-clause-before
count_changes-excess-requires-clause-before g c =
    subst (λ (es : List (Element × ℕ)). IsStrictlySortedBy element_cmp (keys_of es)) (sym c.new.ensures) (sorted_of c.args.before c.requires.before)

pub count_changes-excess-requires-clause-after : goal.count_changes-excess-requires-clause-after
count_changes-excess-requires-clause-after g c =
    subst (λ (es : List (Element × ℕ)). IsStrictlySortedBy element_cmp (keys_of es)) (sym c.new-2.ensures) (sorted_of c.args.after c.requires.after)

pub returns-in-Some : goal.returns-in-Some
returns-in-Some g c =
    let excess = c.count_changes-excess in
    subst (λ (bs : List ℕ). Writes g.K.Sink.given g.K.Sink.failures c.args.sink.now bs c.put_brief_entry.result c.put_brief_entry.new.sink)
    (brief_is c.args.syntax c.args.name.now c.args.before c.args.after c.new.result c.new-2.result c.is_some-is_before.result c.is_some-is_after.result excess.result.before
    excess.result.after c.in-Some.sign c.is_some-is_before.ensures c.is_some-is_after.ensures c.new.ensures c.new-2.ensures excess.ensures.before
    excess.ensures.after c.in-Some.ensures)
    c.put_brief_entry.ensures
