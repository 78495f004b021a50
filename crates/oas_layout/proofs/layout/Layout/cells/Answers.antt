use Rattle.std.proofs.Common.{sym, ap, subst, ◌∙◌, arith}
use Rattle.oas_elements.specs.Contents.{Contents, IsLayout}
use Rattle.oas_layout.specs.Held.{AreLightCells, cells_held}
use Rattle.oas_layout.specs.Laws.HeldLaws.{cells_sound, cells_keys, cells_are}
use Rattle.oas_layout.proofs.layout.Layout.cells.Goals as goal

pub of-requires-clause-held : goal.of-requires-clause-held
of-requires-clause-held c = let h = c.self.inside.held in (cells_held h, cells_sound h, c.iter.ensures.rest ∙ c.deref.ensures.value ∙ cells_keys h)

pub of-requires-clause-light : goal.of-requires-clause-light
of-requires-clause-light c = λ g.
    let h = c.self.inside.held in
    let light : AreLightCells (cells_held h) = omega (arith, c.self.invariant.light, c.self.invariant.limits.light) in
    subst AreLightCells (sym (cells_are g (cells_held h) (cells_sound h) (c.iter.ensures.rest ∙ c.deref.ensures.value ∙ cells_keys h))) light

pub returns-clause-cells : goal.returns-clause-cells
returns-clause-cells c =
    let h = c.self.inside.held in
    c.of.ensures (cells_held h) (cells_sound h) (c.iter.ensures.rest ∙ c.deref.ensures.value ∙ cells_keys h) ∙ ap (λ (v : Contents). v.cells) c.self.view_is

pub returns-clause-layout : goal.returns-clause-layout
returns-clause-layout c = subst IsLayout c.self.view_is c.self.invariant
