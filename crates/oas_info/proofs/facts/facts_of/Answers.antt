use Rattle.std.proofs.Common.{◌≡◌, suc, List, [], ◌∷◌, length, refl, sym, ap, ◌∙◌}
use Rattle.oas_elements.specs.Contents.{Cell, expanded}
use Rattle.oas_info.proofs.facts.facts_of.Goals as goal

length-expanded : (cs : List Cell) → length (expanded cs) ≡ length cs
length-expanded [] = refl
length-expanded (c ∷ cs) = ap suc (length-expanded cs)

pub returns : goal.returns
returns c =
    let totals = c.in_ok-totals.ensures in
    record {
      unit = c.unit.ensures;
      cells = c.cell_count.ensures ∙ sym (length-expanded c.args.layout.now.cells);
      elements = totals.elements;
      weight = totals.weight;
      groups = totals.groups;
      undefined = c.in_ok-names.ensures.undefined;
      unplaced = c.in_ok-names.ensures.unplaced;
    }
