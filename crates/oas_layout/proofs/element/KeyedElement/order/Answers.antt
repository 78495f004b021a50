use Rattle.std.proofs.Common.{◌∙◌}
use Rattle.std.specs.Ordering.{nat_cmp}
use Rattle.std.specs.Cmp.Lexicographic.{slice_cmp}
use Rattle.oas_elements.specs.Element.{element_cmp}
use Rattle.oas_cells.specs.KeyLaws.{key_order}
use Rattle.oas_layout.specs.Held.{element_held}
use Rattle.oas_layout.specs.Laws.HeldLaws.{key_sound, key_is}
use Rattle.oas_layout.proofs.element.KeyedElement.order.Goals as goal

pub returns : goal.returns
returns c =
    let h = c.self.inside.held in
    let g = c.other.inside.held in
    c.cmp.ensures ∙ (λ i. slice_cmp nat_cmp (key_is h i) (key_is g i)) ∙ key_order (element_held h) (element_held g) (key_sound h) (key_sound g)
    ∙ (λ i. element_cmp (c.self.view_is i) (c.other.view_is i))
