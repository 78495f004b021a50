-- What is written of a difference.
use Rattle.std.specs.Prelude.{List, ℕ, Option}
use Rattle.std.specs.Borrow.{Bor}
use Rattle.oas_elements.specs.declared.profile.Profile.{Profile}
use Rattle.oas_elements.specs.Meaning.{Meaning}
use Rattle.oas_diff_options.specs.declared.choice.ChosenLayer.{ChosenLayer}
use Rattle.oas_diff_options.specs.declared.format.Format.{Format}
use Rattle.oas_diff_options.specs.declared.options.Detail.{Detail}
use Rattle.oas_diff_options.specs.declared.options.Detail.TheVariants.{Elements, Counts}
use Rattle.oas_diff_options.specs.declared.options.Options.{Options}
use Rattle.oas_difference.specs.Difference.{difference}
use Rattle.oas_difference.specs.Brief.{brief}
use Rattle.oas_diff_options.specs.Choice.{chosen}
use Rattle.oas_difference.specs.Limited.{limited}

-- each element, or their counts alone
abbrev pub detailed : Option (Bor (List ChosenLayer)) → Detail → Format → Profile → Meaning → Meaning → List ℕ
detailed layers Elements format profile a b = difference layers format profile a b
detailed layers Counts format profile a b = brief layers format.syntax profile a b

-- of what is compared of two layouts
abbrev pub compared : Options → Profile → Meaning → Meaning → List ℕ
compared options profile a b = detailed options.choice.layers options.detail options.format profile (chosen options.choice a) (chosen options.choice b)

-- and of that the first lines
abbrev pub difference_by : Options → Profile → Meaning → Meaning → List ℕ
difference_by options profile a b = limited options.format.syntax options.limit (compared options profile a b)
