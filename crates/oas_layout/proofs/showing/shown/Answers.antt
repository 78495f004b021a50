use Rattle.std.proofs.Common.{◌≡◌, ◌∙◌, ap, subst, List, rules, to_z, of_z, w64}
use Rattle.oas_ring.specs.declared.point.Point.{Point}
use Rattle.oas_elements.specs.declared.element.Element.TheVariants.{Polygon, Path}
use Rattle.oas_cells.specs.Reading.{Spells}
use Rattle.oas_layout.proofs.showing.shown.Goals as goal

pub returns-in-Polygon : goal.returns-in-Polygon
returns-in-Polygon c e h =
    let s = subst (λ x. Spells x e) c.in-Polygon.is h in
    ap (λ (ps : List Point). Polygon c.in-Polygon.layer c.in-Polygon.datatype ps) (c.of.ensures s.0 s.1) ∙ s.2

pub returns-in-Path : goal.returns-in-Path
returns-in-Path c e h =
    let s = subst (λ x. Spells x e) c.in-Path.is h in
    let a : to_z w64 (of_z w64 c.in-Path.start) ≡ c.in-Path.start = search rules in
    let b : to_z w64 (of_z w64 c.in-Path.end) ≡ c.in-Path.end = search rules in
    (λ i. Path c.in-Path.layer c.in-Path.datatype c.in-Path.half_width (a i) (b i) (c.of-in-Path.ensures s.0 s.1 i)) ∙ s.2
