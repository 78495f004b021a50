-- What may be drawn in a cell.
use Rattle.std.specs.Prelude.{◌≡◌, true, false}
use Rattle.oas_drawing.specs.declared.drawn.Drawn.{Drawn}
use Rattle.oas_drawing.specs.Drawn.{drawn_fits, drawn_lacks_points}

-- it has its points, and is within the grid
pub record IsFit (d : Drawn) : Type 0 where
  pub points : drawn_lacks_points d ≡ false
  pub inside : drawn_fits d ≡ true
