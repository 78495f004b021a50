-- The records of the profile that the records of a file of the standard are translated to, one after another.
use Rattle.std.specs.Prelude.{List, [], Result, Ok}
use Rattle.oas_record.specs.declared.records.Record.{Record}
use Rattle.oas_standard.specs.declared.records.WideRecord.{WideRecord}
use Rattle.oas_standard.specs.declared.records.WideRecord.TheVariants as wide
use Rattle.oas_standard.specs.declared.reasons.WideWhy.{WideWhy}
use Rattle.oas_trapezoids.specs.Tracked.{Tracked, tracked}
use Rattle.oas_trapezoids.specs.Kept.{given}
use Rattle.oas_trapezoids.specs.Trapezoids.{trapezoid_after, trapezoid_handed, named_after, named_handed}
use Rattle.oas_trapezoids.specs.Extensions.{geometry_after, geometry_handed}

-- the records that are returned for one more, or why it is refused
abbrev pub translated_by : Tracked → WideRecord → Result (List Record) WideWhy
translated_by s (wide.Profile r) = given (tracked s r) r
translated_by s (wide.Trapezoid t) = trapezoid_handed s t
translated_by s (wide.NamedTrapezoid t) = named_handed s t
translated_by s (wide.ExtensionGeometry g) = geometry_handed s g
translated_by s _ = Ok []

-- what is tracked after it, where it isn't refused
abbrev pub kept_after : Tracked → WideRecord → Tracked
kept_after s (wide.Profile r) = tracked s r
kept_after s (wide.Trapezoid t) = trapezoid_after s t
kept_after s (wide.NamedTrapezoid t) = named_after s t
kept_after s (wide.ExtensionGeometry g) = geometry_after s g
kept_after s _ = s
