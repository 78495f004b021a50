use Rattle.std.proofs.Common.{◌++◌, ℕ, List, [], ◌∷◌, ap, ◌∙◌}
use Rattle.std.specs.Prelude.{codes}
use Rattle.oas_info.specs.Text.{number_line, name_line, group_lines, unit_line}
use Rattle.oas_info.proofs.TextLemmas.{eight}
use Rattle.oas_info.proofs.text.put_lines.Goals as goal

pub returns : goal.returns
returns c =
    let info = c.args.info.now in
    let facts = info.facts in
    let t2 = c.put_line.new.text.items in
    let t3 = c.put_name_line.new.text.items in
    eight (unit_line facts.unit) (number_line (codes "cells") (facts.cells ∷ [])) (name_line (codes "undefined") facts.undefined.items) (name_line (codes "unplaced") facts.unplaced.items)
    (number_line (codes "elements") (facts.elements ∷ [])) (group_lines facts.groups.entries) (number_line (codes "weight") (facts.weight ∷ [])) (number_line (codes "size") (info.size ∷ []))
    c.args.text.now.items c.put_unit.new.text.items t2 t3 c.put_name_line-2.new.text.items c.put_line-2.new.text.items c.put_groups.new.text.items
    c.put_line-3.new.text.items c.put_line-4.new.text.items
    c.requires c.in_ok-put_unit.ensures c.in_ok-put_line.ensures
    (c.in_ok-put_name_line.ensures ∙ ap (λ (ns : List (List ℕ)). t2 ++ name_line (codes "undefined") ns) c.deref.ensures.value)
    (c.in_ok-put_name_line-2.ensures ∙ ap (λ (ns : List (List ℕ)). t3 ++ name_line (codes "unplaced") ns) c.deref-2.ensures.value)
    c.in_ok-put_line-2.ensures c.in_ok-put_groups.ensures c.in_ok-put_line-3.ensures c.in_ok-put_line-4.ensures
