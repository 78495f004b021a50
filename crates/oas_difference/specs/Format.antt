-- How a difference is written: as lines or as JSON, and in grid steps or in microns.
use Rattle.std.specs.Prelude.{Option, None, Some}
use Rattle.oas_num.specs.Ratio.{Ratio}
use Rattle.oas_diff_options.specs.declared.format.Measure.{Measure}
use Rattle.oas_diff_options.specs.declared.format.Measure.TheVariants.{Grid, Microns}
use Rattle.oas_diff_options.specs.declared.format.Format.{Format}
use Rattle.oas_difference.specs.declared.notation.Notation.{Notation}

-- the unit by which grid steps become microns; none where they stay grid steps
abbrev pub scale_of : Measure → Ratio → Option Ratio
scale_of Grid unit = None
scale_of Microns unit = Some unit

-- each layout's elements by its own unit
abbrev pub notation_of : Format → Ratio → Ratio → Notation
notation_of format u v = record { syntax = format.syntax; before = scale_of format.measure u; after = scale_of format.measure v }
