-- The modal positions (SEMI P39, Modal variables). Records are listed newest first.
use Rattle.std.specs.Prelude.{ℤ, pos, neg_ℤ, ◌≤ℤ◌, ◌^◌, ◌+ℤ◌, List, Option, None, Some, Bool, cond, unwrap_or}
use Rattle.oas_record.specs.declared.spots.Spot.{Spot}
use Rattle.oas_record.specs.declared.records.Record.{Record}
use Rattle.oas_drawing.specs.declared.positions.Position.{Position}
use Rattle.oas_drawing.specs.Looking.{latest, sum_since}
use Rattle.oas_drawing.specs.GivenFields.{GivenFields, given_fields}
use Rattle.oas_drawing.specs.Values.{is_relative}

-- the coordinate, in absolute mode
abbrev pub if_absolute : Bool → Option ℤ → Option ℤ
if_absolute relative None = None
if_absolute relative (Some z) = cond relative None (Some z)

-- the coordinate, in relative mode
abbrev pub if_relative : Bool → Option ℤ → Option ℤ
if_relative relative None = None
if_relative relative (Some z) = cond relative (Some z) None

-- a record that gives the coordinate sets it in absolute mode
abbrev pub sets : (GivenFields → Option ℤ) → Record → List Record → Option ℤ
sets of r before = if_absolute (is_relative before) (of (given_fields r))

-- and shifts it in relative mode
abbrev pub shifts : (GivenFields → Option ℤ) → Record → List Record → Option ℤ
shifts of r before = if_relative (is_relative before) (of (given_fields r))

-- the latest coordinate in absolute mode, or 0, plus what later records give in relative mode
abbrev pub coordinate : (GivenFields → Option ℤ) → List Record → ℤ
coordinate of rs = unwrap_or (latest (sets of) rs) (pos 0) +ℤ sum_since (sets of) (shifts of) rs

abbrev pub position : (GivenFields → Spot) → List Record → Position
position of rs = record { x = coordinate (λ g. (of g).x) rs; y = coordinate (λ g. (of g).y) rs }

-- a coordinate within the limits (own rule)
pub record IsWithin (z : ℤ) : Type 0 where
  pub low : neg_ℤ (pos (2 ^ 60)) ≤ℤ z
  pub high : z ≤ℤ pos (2 ^ 60)

-- a position within the limits
pub record IsNear (at : Position) : Type 0 where
  pub x : IsWithin at.x
  pub y : IsWithin at.y
