-- What is tracked of the modal variables (SEMI P39, Modal variables): those that trapezoids and geometry of extensions share
-- with other elements, and ctrapezoid-type.
use Rattle.std.specs.Prelude.{ℕ, Bool, true, false, cond, unwrap_or, List, [], ◌∷◌, Option, None}
use Rattle.std.specs.Option.{option_or}
use Rattle.oas_shape.specs.declared.repetitions.Repetition.{Repetition}
use Rattle.oas_shape.specs.declared.repetitions.RepField.{RepField}
use Rattle.oas_shape.specs.Polylines.{Polyline}
use Rattle.oas_record.specs.declared.rectangles.Rectangle.{Rectangle}
use Rattle.oas_record.specs.declared.spots.Spot.{Spot}
use Rattle.oas_record.specs.declared.records.Record.{Record}
use Rattle.oas_record.specs.declared.records.Record.TheVariants as record_of
use Rattle.oas_drawing.specs.Looking.{is_cell}
use Rattle.oas_drawing.specs.GivenFields.{GivenFields, given_fields}
use Rattle.oas_drawing.specs.Values.{new_repetition}
use Rattle.oas_trapezoids.specs.declared.places.Place.{Place}
use Rattle.oas_trapezoids.specs.declared.resolved.Resolved.{Resolved}
use Rattle.oas_trapezoids.specs.declared.resolved.Resolved.TheVariants.{Nothing, One, Absolute}
use Rattle.oas_trapezoids.specs.Places.{origin, place_after}

pub record Tracked : Type 0 where
  -- whether a trapezoid or geometry of an extension was there since the CELL
  pub is_mixed : Bool
  -- ctrapezoid-type
  pub kind : Option ℕ
  pub layer : Option ℕ
  pub datatype : Option ℕ
  pub width : Option ℕ
  pub height : Option ℕ
  pub polygon_points : Option Polyline
  pub repetition : Option Repetition
  pub place : Place

-- as a CELL leaves them
abbrev pub fresh : Tracked
fresh =
    record {
      is_mixed = false;
      kind = None;
      layer = None;
      datatype = None;
      width = None;
      height = None;
      polygon_points = None;
      repetition = None;
      place = origin;
    }

-- ---- how records of the profile change them

-- by a repetition field
abbrev pub repeated_by : Tracked → Option RepField → Tracked
repeated_by s field = record s { repetition = option_or (new_repetition field) s.repetition }

-- by what all kinds of geometry give beside the repetition
abbrev pub placed_by : Tracked → Option ℕ → Option ℕ → Spot → Tracked
placed_by s layer datatype spot = record s { layer = option_or layer s.layer; datatype = option_or datatype s.datatype; place = place_after s.place spot }

-- by what all kinds of geometry give
abbrev pub drawn_by : Tracked → Option ℕ → Option ℕ → Spot → Tracked
drawn_by s layer datatype spot =
    record s {
      layer = option_or layer s.layer;
      datatype = option_or datatype s.datatype;
      repetition = option_or (new_repetition spot.repetition) s.repetition;
      place = place_after s.place spot;
    }

-- by the sizes that a rectangle gives
abbrev pub sized_by : Tracked → Rectangle → Tracked
sized_by s r =
    record s {
      width = option_or r.width s.width;
      height = option_or (cond r.square (option_or r.width s.width) r.height) s.height;
    }

-- by the coordinates and the mode that a record gives
abbrev pub place_given : Place → GivenFields → Place
place_given place g = record (place_after place g.geometry) { relative = unwrap_or g.relative place.relative }

-- By what a record gives. A square gives its width as its height, which may be the modal one.
abbrev pub tracked_by : Tracked → GivenFields → Tracked
tracked_by s g =
    record s {
      layer = option_or g.layer s.layer;
      datatype = option_or g.datatype s.datatype;
      width = option_or g.width s.width;
      height = option_or (cond g.square (option_or g.width s.width) g.height) s.height;
      polygon_points = option_or g.polygon_points s.polygon_points;
      repetition = option_or (new_repetition g.repetition) s.repetition;
      place = place_given s.place g;
    }

-- by a record of the profile
abbrev pub tracked : Tracked → Record → Tracked
tracked s r = cond (is_cell r) fresh (tracked_by s (given_fields r))

-- ---- what is returned

-- the records, in order
abbrev pub handed : Resolved → List Record
handed Nothing = []
handed (One r) = r ∷ []
handed (Absolute r) = record_of.XyAbsolute ∷ r ∷ record_of.XyRelative ∷ []

-- a record with absolute coordinates, where the mode may be relative
abbrev pub placed : Bool → Record → List Record
placed relative r = cond relative (record_of.XyAbsolute ∷ r ∷ record_of.XyRelative ∷ []) (r ∷ [])
