-- The kept form of a sound element is sound.
use Rattle.std.proofs.Common.{◌≡◌, ℕ, ◌<◌, ◌^◌, Bool, true, false, ◌&&◌, List, Option, None, Some, refl, arith}
use Rattle.std.proofs.lemmas.Int.{ints}
use Rattle.std.specs.Prelude.{ℤ, pos, ◌+ℤ◌}
use Rattle.oas_ring.specs.declared.point.Point.{Point}
use Rattle.oas_ring.specs.declared.rectangles.Corners.{Corners}
use Rattle.oas_ring.specs.Readings.{least_of}
use Rattle.oas_elements.specs.declared.profile.Profile.{Profile}
use Rattle.oas_elements.specs.declared.element.Element.{Element}
use Rattle.oas_elements.specs.declared.element.Element.TheVariants.{Polygon, Rectangle}
use Rattle.oas_elements.specs.Grid.{is_coordinate, reaches, fits_grid}
use Rattle.oas_elements.specs.Same.{drawn_box, normal_polygon, normal}
use Rattle.oas_elements.specs.Sound.{IsSound, Fits, FitsPolygon}
use Rattle.oas_elements.proofs.SoundLemmas.{lacks_points-normal, fits_grid-normal}

both : (a b : Bool) → (a && b) ≡ true → (a ≡ true) × (b ≡ true)
both true b h = (refl, h)
both false b h = absurd cc

-- a side between two coordinates is a number of 64 bits
short : (x : ℤ) (side : ℕ) → is_coordinate x ≡ true → is_coordinate (x +ℤ pos side) ≡ true → side < 2 ^ 64
short x side h k = grind (arith, ints)

sides_fit : (layer datatype width height : ℕ) (x y : ℤ) → FitsPolygon layer datatype → fits_grid (Rectangle layer datatype width height x y) ≡ true → Fits (Rectangle layer datatype width height x y)
sides_fit layer datatype width height x y f h =
    let b = both (reaches x width) (reaches y height) h in
    let wide = both (is_coordinate x) (is_coordinate (x +ℤ pos width)) b.0 in
    let tall = both (is_coordinate y) (is_coordinate (y +ℤ pos height)) b.1 in
    record { layer_fits = f.layer_fits; datatype_fits = f.datatype_fits; width_fits = short x width wide.0 wide.1; height_fits = short y height tall.0 tall.1 }

polygon_fits : (layer datatype : ℕ) (points : List Point) (o : Option Corners) → FitsPolygon layer datatype → fits_grid (normal_polygon layer datatype points o) ≡ true →
    Fits (normal_polygon layer datatype points o)
polygon_fits layer datatype points None f h = f
polygon_fits layer datatype points (Some c) f h = sides_fit layer datatype _ _ c.low.x c.low.y f h

module _ (profile : Profile) where
  normal_fits : (e : Element) → Fits e → fits_grid (normal profile e) ≡ true → Fits (normal profile e)
  normal_fits (Polygon layer datatype points) f h = polygon_fits layer datatype (least_of points) (drawn_box profile points) f h
  normal_fits e f h = f

  pub normal_sound : (e : Element) → IsSound e → IsSound (normal profile e)
  normal_sound e h =
      let inside = fits_grid-normal profile e h.inside in
      record { points = lacks_points-normal profile e h.points; inside = inside; fits = normal_fits e h.fits inside }
