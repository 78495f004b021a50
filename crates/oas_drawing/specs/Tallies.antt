-- What an element counts for where it isn't kept.
use Rattle.std.specs.Prelude.{◌≡◌, Option, None, Some}
use Rattle.oas_drawing.specs.declared.drawn.Drawn.{Drawn}
use Rattle.oas_drawing.specs.declared.drawn.Drawn.TheVariants.{Named, PlacementBy, TextBy}
use Rattle.oas_drawing.specs.declared.tally.Tally.{Tally}
use Rattle.oas_drawing.specs.declared.tally.UsedNumber.{UsedNumber}
use Rattle.oas_drawing.specs.declared.tally.UsedNumber.TheVariants.{Nothing, Cell, Text}
use Rattle.oas_drawing.specs.Drawn.{weight_so_far}
use Rattle.oas_drawing.specs.Reasons.{weight_if, fault_of}

-- the number that it uses for its name
abbrev pub used_by : Drawn → UsedNumber
used_by (Named e) = Nothing
used_by (PlacementBy number x y turns flip) = Cell number
used_by (TextBy number textlayer texttype x y) = Text number

abbrev pub used_if : Option Drawn → UsedNumber
used_if None = Nothing
used_if (Some d) = used_by d

-- an element is drawn, and counts for this
pub record IsTallied (o : Option Drawn) (t : Tally) : Type 0 where
  pub drawn : fault_of o ≡ None
  pub weight : t.weight ≡ weight_if o
  pub used : t.used ≡ used_if o

-- what it counts for
abbrev pub tally_of : Drawn → Tally
tally_of d = record { weight = weight_so_far d; used = used_by d }
