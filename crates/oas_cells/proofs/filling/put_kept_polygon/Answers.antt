use Rattle.std.proofs.Common.{◌≡◌, ◌∙◌, ap, true, rules, w64, FitsSigned}
use Rattle.std.specs.Prelude.{◌&&◌, ◌-ℤ◌, unsigned_abs}
use Rattle.std.proofs.lemmas.Int.{to_z-of_z}
use Rattle.oas_elements.specs.declared.element.Element.TheVariants.{Polygon}
use Rattle.oas_elements.specs.Grid.{fits_grid, reaches}
use Rattle.oas_elements.specs.Same.{rectangle_of}
use Rattle.oas_elements.proofs.SoundLemmas.{fits_grid-normal}
use Rattle.oas_cells.proofs.filling.put_kept_polygon.Goals as goal

pub put_rectangle_key-requires : goal.put_rectangle_key-requires
put_rectangle_key-requires c =
    let low = c.in-Box.corners.low in
    let high = c.in-Box.corners.high in
    let x : FitsSigned w64 low.x = search rules in
    let y : FitsSigned w64 low.y = search rules in
    let width : c.abs_diff.result ≡ unsigned_abs (high.x -ℤ low.x) = search rules in
    let height : c.abs_diff-in-Box.result ≡ unsigned_abs (high.y -ℤ low.y) = search rules in
    let inside : fits_grid (rectangle_of c.args.layer c.args.datatype c.in-Box.corners) ≡ true =
    ap fits_grid (c.in-Box.ensures.kept c.args.layer c.args.datatype) ∙ fits_grid-normal c.args.profile (Polygon c.args.layer c.args.datatype c.args.ring.now) c.requires.inside in
    (λ i. reaches (to_z-of_z w64 low.x x i) (width i) && reaches (to_z-of_z w64 low.y y i) (height i)) ∙ inside
