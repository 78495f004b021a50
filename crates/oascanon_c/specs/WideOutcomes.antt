-- How C is told of an answer to preparing a file.
use Rattle.std.specs.Prelude.{ℕ}
use Rattle.oas_prepare.specs.Report.{Report}
use Rattle.oas_prepare.specs.Place.{Place}
use Rattle.oas_prepare.specs.Place.TheVariants.{File, Block}
use Rattle.oas_prepare.specs.StandardReasons.{wide_number_of}
use Rattle.oascanon_c.specs.declared.answers.Outcome.{Outcome}
use Rattle.oascanon_c.specs.declared.wide_answers.Preparation.{Preparation}
use Rattle.oascanon_c.specs.declared.wide_answers.WideAnswer.{WideAnswer}
use Rattle.oascanon_c.specs.declared.wide_answers.WideAnswer.TheVariants.{Prepared, NotLimits, UnknownDrop, Stopped}
use Rattle.oascanon_c.specs.Outcomes.{outcome_of}

-- the offset in the file: of a record, or of the block that it is in
abbrev pub at_of : Place → ℕ
at_of (File at) = at
at_of (Block block within) = block

-- 1 for a place in a block
abbrev pub in_block_of : Place → ℕ
in_block_of (File at) = 0
in_block_of (Block block within) = 1

-- the offset in what a block inflates to
abbrev pub within_of : Place → ℕ
within_of (File at) = 0
within_of (Block block within) = within

abbrev pub left_out_of : Report → Preparation
left_out_of report = record {
  properties = report.properties;
  property_names = report.property_names;
  layer_names = report.layer_names;
  extensions = report.extensions;
  extension_names = report.extension_names;
  in_block = 0;
  within = 0;
}

abbrev pub none_left_out : ℕ → ℕ → Preparation
none_left_out in_block within = record { properties = 0; property_names = 0; layer_names = 0; extensions = 0; extension_names = 0; in_block = in_block; within = within }

-- ---- what C is told

abbrev pub wide_outcome_of : WideAnswer → Outcome
wide_outcome_of (Prepared answer report) = outcome_of answer
wide_outcome_of NotLimits = record { status = 66; file = 0; at = 0; length = 0 }
wide_outcome_of UnknownDrop = record { status = 68; file = 0; at = 0; length = 0 }
wide_outcome_of (Stopped rejection) = record { status = wide_number_of rejection.why; file = 1; at = at_of rejection.place; length = 0 }

-- the counts where the file is prepared, and the place in a block where it isn't
abbrev pub preparation_of : WideAnswer → Preparation
preparation_of (Prepared answer report) = left_out_of report
preparation_of NotLimits = none_left_out 0 0
preparation_of UnknownDrop = none_left_out 0 0
preparation_of (Stopped rejection) = none_left_out (in_block_of rejection.place) (within_of rejection.place)
