-- What every element of a layout is: it has its points, is within the grid, and has fields that a file can spell.
use Rattle.std.specs.Prelude.{◌≡◌, ℕ, ◌<◌, ◌^◌, true, false, List}
use Rattle.oas_num.specs.Ratio.{Ratio, IsLowest}
use Rattle.oas_num.specs.Texts.{IsName, IsLabel}
use Rattle.oas_elements.specs.declared.element.Element.{Element}
use Rattle.oas_elements.specs.declared.element.Element.TheVariants.{Placement, Text, Rectangle, Polygon, Path, Circle}
use Rattle.oas_elements.specs.Weight.{lacks_points}
use Rattle.oas_elements.specs.Grid.{fits_grid}

-- a text's string is an a-string, and its numbers have 64 bits
pub record FitsText (string : List ℕ) (textlayer texttype : ℕ) : Type 0 where
  pub string_fits : IsLabel string
  pub textlayer_fits : textlayer < 2 ^ 64
  pub texttype_fits : texttype < 2 ^ 64

-- a rectangle's numbers have 64 bits
pub record FitsRectangle (layer datatype width height : ℕ) : Type 0 where
  pub layer_fits : layer < 2 ^ 64
  pub datatype_fits : datatype < 2 ^ 64
  pub width_fits : width < 2 ^ 64
  pub height_fits : height < 2 ^ 64

-- those of a polygon are
pub record FitsPolygon (layer datatype : ℕ) : Type 0 where
  pub layer_fits : layer < 2 ^ 64
  pub datatype_fits : datatype < 2 ^ 64

-- those of a path are
pub record FitsPath (layer datatype half_width : ℕ) : Type 0 where
  pub layer_fits : layer < 2 ^ 64
  pub datatype_fits : datatype < 2 ^ 64
  pub half_width_fits : half_width < 2 ^ 64

-- those of a circle are
pub record FitsCircle (layer datatype radius : ℕ) : Type 0 where
  pub layer_fits : layer < 2 ^ 64
  pub datatype_fits : datatype < 2 ^ 64
  pub radius_fits : radius < 2 ^ 64

-- names are n-strings, strings a-strings, and all that isn't a coordinate is a number of 64 bits
abbrev pub Fits : Element → Type 0
Fits (Placement cell x y turns flip) = IsName cell
Fits (Text string textlayer texttype x y) = FitsText string textlayer texttype
Fits (Rectangle layer datatype width height x y) = FitsRectangle layer datatype width height
Fits (Polygon layer datatype points) = FitsPolygon layer datatype
Fits (Path layer datatype half_width start end points) = FitsPath layer datatype half_width
Fits (Circle layer datatype radius x y) = FitsCircle layer datatype radius

-- an element that has its points, is within the grid, and can be spelled
pub record IsSound (e : Element) : Type 0 where
  pub points : lacks_points e ≡ false
  pub inside : fits_grid e ≡ true
  pub fits : Fits e

-- a unit in lowest terms, with two numbers of 64 bits
pub record IsUnit (unit : Ratio) : Type 0 where
  pub lowest : IsLowest unit
  pub num : unit.num < 2 ^ 64
  pub den : unit.den < 2 ^ 64
