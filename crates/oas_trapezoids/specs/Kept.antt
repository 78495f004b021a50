-- How records of the profile are returned. s are the variables after the record.
use Rattle.std.specs.Prelude.{Bool, false, ◌&&◌, is_none, if◌then◌else◌, List, [], ◌∷◌, Option, Some, Result, Ok, Err}
use Rattle.std.specs.Option.{option_or}
use Rattle.oas_num.specs.declared.refusals.Why.TheVariants.{ModalUndefined}
use Rattle.oas_shape.specs.declared.repetitions.Repetition.{Repetition}
use Rattle.oas_shape.specs.declared.repetitions.RepField.{RepField}
use Rattle.oas_shape.specs.declared.repetitions.RepField.TheVariants.{Again, New}
use Rattle.oas_record.specs.declared.polygons.Polygon.{Polygon}
use Rattle.oas_record.specs.declared.rectangles.Rectangle.{Rectangle}
use Rattle.oas_record.specs.declared.spots.Spot.{Spot}
use Rattle.oas_record.specs.declared.records.Record.{Record}
use Rattle.oas_record.specs.declared.records.Record.TheVariants as record_of
use Rattle.oas_drawing.specs.GivenFields.{given_fields, with_geometry}
use Rattle.oas_drawing.specs.Drawing.{is_geometry}
use Rattle.oas_standard.specs.declared.reasons.WideWhy.{WideWhy}
use Rattle.oas_standard.specs.declared.reasons.WideWhy.TheVariants.{Profile}
use Rattle.oas_trapezoids.specs.Tracked.{Tracked, placed}

-- the repetition, in place of the reference to the modal one, which stays where that is undefined
abbrev pub repetition_given : Option Repetition → Option RepField → Option RepField
repetition_given (Some repetition) (Some Again) = Some (New repetition)
repetition_given modal field = field

-- the position of an element of another class
abbrev pub spot_repeated : Tracked → Spot → Spot
spot_repeated s spot = record spot { repetition = repetition_given s.repetition spot.repetition }

-- the position of geometry, by absolute coordinates
abbrev pub spot_given : Tracked → Option RepField → Spot
spot_given s field = record { x = Some s.place.x; y = Some s.place.y; repetition = repetition_given s.repetition field }

abbrev pub rectangle_filled : Tracked → Rectangle → Rectangle
rectangle_filled s r =
    record {
      square = false;
      layer = s.layer;
      datatype = s.datatype;
      width = s.width;
      height = s.height;
      spot = spot_given s r.spot.repetition;
    }

abbrev pub polygon_filled : Tracked → Polygon → Polygon
polygon_filled s p = record { layer = s.layer; datatype = s.datatype; points = option_or p.points s.polygon_points; spot = spot_given s p.spot.repetition }

-- a record where the values are given that it takes from variables which other kinds of elements set too
abbrev pub filled : Tracked → Record → Record
filled s (record_of.Placement p) = record_of.Placement (record p { spot = spot_repeated s p.spot })
filled s (record_of.Text t) = record_of.Text (record t { spot = spot_repeated s t.spot })
filled s (record_of.Rectangle r) = record_of.Rectangle (rectangle_filled s r)
filled s (record_of.Polygon p) = record_of.Polygon (polygon_filled s p)
filled s r = with_geometry s.layer s.datatype (spot_given s (given_fields r).geometry.repetition) r

-- a polygon without points
abbrev pub lacks_points : Record → Bool
lacks_points (record_of.Polygon p) = is_none p.points
lacks_points _ = false

-- After one of those. A polygon without points is refused here: a reader of the returned records may have those of a
-- trapezoid.
abbrev pub given_mixed : Tracked → Record → Result (List Record) WideWhy
given_mixed s r =
    if lacks_points r && is_none s.polygon_points then Err (Profile ModalUndefined)
    else Ok (placed (is_geometry r && s.place.relative) (filled s r))

-- unchanged, where there was neither a trapezoid nor geometry of an extension since the CELL
abbrev pub given : Tracked → Record → Result (List Record) WideWhy
given s r = if s.is_mixed then given_mixed s r else Ok (r ∷ [])
