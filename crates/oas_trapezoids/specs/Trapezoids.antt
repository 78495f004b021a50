-- What trapezoids are translated to (SEMI P39, TRAPEZOID and CTRAPEZOID records).
use Rattle.std.specs.Prelude.{ℕ, pos, ◌^◌, Bool, true, ◌&&◌, nat_lt, nat_le, ◌==◌, if◌then◌else◌, List, Option, None, Some, unwrap_or, Result, Ok, Err}
use Rattle.std.specs.Option.{option_or}
use Rattle.oas_num.specs.declared.refusals.Why.TheVariants.{ModalUndefined, InfoByte, CoordinateRange}
use Rattle.oas_shape.specs.declared.repetitions.RepField.{RepField}
use Rattle.oas_record.specs.declared.records.Record.{Record}
use Rattle.oas_trapezoids.specs.declared.corners.Corner.{Corner}
use Rattle.oas_trapezoids.specs.declared.sides.Sides.{Sides}
use Rattle.oas_trapezoids.specs.Deltas.{trapezoid}
use Rattle.oas_trapezoids.specs.Named.{named}
use Rattle.oas_trapezoids.specs.Sides.{sides, box_of}
use Rattle.oas_standard.specs.declared.trapezoids.Trapezoid.{Trapezoid}
use Rattle.oas_standard.specs.declared.trapezoids.NamedTrapezoid.{NamedTrapezoid}
use Rattle.oas_standard.specs.declared.reasons.WideWhy.{WideWhy}
use Rattle.oas_standard.specs.declared.reasons.WideWhy.TheVariants as wide
use Rattle.oas_trapezoids.specs.Tracked.{Tracked, drawn_by}
use Rattle.oas_trapezoids.specs.Shapes.{shape_of}

-- what is returned for what is enclosed, if anything is
abbrev pub enclosed : Tracked → Option RepField → Sides → Option (List Corner) → Result (List Record) WideWhy
enclosed s field box None = Err wide.Trapezoid
enclosed s field box (Some corners) = shape_of s field box corners

-- ---- TRAPEZOID

-- the variables after it
abbrev pub trapezoid_after : Tracked → Trapezoid → Tracked
trapezoid_after s t =
    record (drawn_by s t.layer t.datatype t.spot) {
      is_mixed = true;
      width = option_or t.width s.width;
      height = option_or t.height s.height;
    }

-- its corners in a box, where they enclose an area; a delta that its id doesn't give is 0
abbrev pub corners_of : Trapezoid → Sides → Option (List Corner)
corners_of t box = trapezoid t.upright box.width box.height (unwrap_or t.delta_a (pos 0)) (unwrap_or t.delta_b (pos 0))

-- the box, where both sides are defined
abbrev pub box_at : Option ℕ → Option ℕ → Result Sides WideWhy
box_at (Some w) (Some h) = Ok (sides w h)
box_at _ _ = Err (wide.Profile ModalUndefined)

abbrev pub modal_box : Tracked → Result Sides WideWhy
modal_box s = box_at s.width s.height

-- s are the variables after it
abbrev pub trapezoid_by : Tracked → Trapezoid → Result Sides WideWhy → Result (List Record) WideWhy
trapezoid_by s t (Err why) = Err why
trapezoid_by s t (Ok box) = enclosed s t.spot.repetition box (corners_of t box)

-- what is returned for it
abbrev pub trapezoid_handed : Tracked → Trapezoid → Result (List Record) WideWhy
trapezoid_handed s t = let after = trapezoid_after s t in trapezoid_by after t (modal_box after)

-- ---- CTRAPEZOID

-- a given side is that of the box
abbrev pub agrees : ℕ → Option ℕ → Bool
agrees side None = true
agrees side (Some given) = given == side

-- both sides are below 2^64
abbrev pub is_short : Sides → Bool
is_short box = nat_lt box.width (2 ^ 64) && nat_lt box.height (2 ^ 64)

-- The box, as its kind implies it. An implied side may also be given, but only with the implied value (own rule).
abbrev pub checked : NamedTrapezoid → Option Sides → Result Sides WideWhy
checked t None = Err (wide.Profile ModalUndefined)
checked t (Some box) =
    if is_short box then (if agrees box.width t.width && agrees box.height t.height then Ok box else Err (wide.Profile InfoByte))
    else Err (wide.Profile CoordinateRange)

-- the kinds are 0 to 25
abbrev pub box_if : Tracked → ℕ → NamedTrapezoid → Result Sides WideWhy
box_if s kind t =
    if nat_le 26 kind then Err wide.CtrapezoidType
    else checked t (box_of kind (option_or t.width s.width) (option_or t.height s.height))

abbrev pub box_by : Tracked → Option ℕ → NamedTrapezoid → Result Sides WideWhy
box_by s None t = Err (wide.Profile ModalUndefined)
box_by s (Some kind) t = box_if s kind t

-- the box of a trapezoid with the kind that it gives, or the modal one
abbrev pub named_box : Tracked → NamedTrapezoid → Result Sides WideWhy
named_box s t = box_by s (option_or t.kind s.kind) t

-- The variables after it: both sides of its box are modal, also an implied one (own rule).
abbrev pub with_box : Tracked → Result Sides WideWhy → Tracked
with_box s (Err why) = s
with_box s (Ok box) = record s { width = Some box.width; height = Some box.height }

abbrev pub named_after : Tracked → NamedTrapezoid → Tracked
named_after s t = with_box (record (drawn_by s t.layer t.datatype t.spot) { is_mixed = true; kind = option_or t.kind s.kind }) (named_box s t)

-- s are the variables after it
abbrev pub named_by : Tracked → NamedTrapezoid → Option ℕ → Result Sides WideWhy → Result (List Record) WideWhy
named_by s t _ (Err why) = Err why
named_by s t None (Ok box) = Err (wide.Profile ModalUndefined)
named_by s t (Some kind) (Ok box) = enclosed s t.spot.repetition box (named kind box.width box.height)

-- what is returned for it
abbrev pub named_handed : Tracked → NamedTrapezoid → Result (List Record) WideWhy
named_handed s t = named_by (named_after s t) t (option_or t.kind s.kind) (named_box s t)
