-- The law of differences, as a statement.
use Rattle.std.specs.Prelude.{◌≡◌, ◌↔◌, [], None}
use Rattle.oas_elements.specs.declared.profile.Profile.{Profile}
use Rattle.oas_elements.specs.Meaning.{Meaning, SameLayout}
use Rattle.oas_difference.specs.Difference.{difference}
use Rattle.oas_diff_options.specs.declared.format.Format.{Format}

-- in each format the difference is empty exactly if the layouts are the same
abbrev pub EmptyIfSame : Format → Profile → Type 0
EmptyIfSame format profile = (a b : Meaning) → (difference None format profile a b ≡ []) ↔ SameLayout profile a b
