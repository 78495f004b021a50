-- What geometry of an extension sets (SEMI P39, XGEOMETRY record).
use Rattle.std.specs.Prelude.{Bool, true, ◌||◌, ◌&&◌, is_none, is_some, if◌then◌else◌, List, [], Result, Ok, Err}
use Rattle.oas_num.specs.declared.refusals.Why.TheVariants.{ModalUndefined, CoordinateRange}
use Rattle.oas_standard.specs.declared.extensions.ExtensionGeometry.{ExtensionGeometry}
use Rattle.oas_standard.specs.declared.reasons.WideWhy.{WideWhy}
use Rattle.oas_standard.specs.declared.reasons.WideWhy.TheVariants.{Profile}
use Rattle.oas_record.specs.declared.records.Record.{Record}
use Rattle.oas_trapezoids.specs.Places.{is_on_grid}
use Rattle.oas_trapezoids.specs.Tracked.{Tracked, drawn_by}

-- the variables after it
abbrev pub geometry_after : Tracked → ExtensionGeometry → Tracked
geometry_after s g = record (drawn_by s g.layer g.datatype g.spot) { is_mixed = true }

-- a variable is undefined that an element with its fields would need
abbrev pub is_undefined : Tracked → ExtensionGeometry → Bool
is_undefined s g = (is_none s.layer || is_none s.datatype) || (is_some g.spot.repetition && is_none s.repetition)

-- s are the variables after it
abbrev pub geometry_by : Tracked → ExtensionGeometry → Result (List Record) WideWhy
geometry_by s g =
    if is_undefined s g then Err (Profile ModalUndefined)
    else if is_on_grid s.place then Ok []
    else Err (Profile CoordinateRange)

-- no record is returned for it; it is refused as an element would be (own rule)
abbrev pub geometry_handed : Tracked → ExtensionGeometry → Result (List Record) WideWhy
geometry_handed s g = geometry_by (geometry_after s g) g
