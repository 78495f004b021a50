-- The laws of what is written of differences, as statements.
use Rattle.std.specs.Prelude.{◌≡◌, ◌↔◌, ℕ, List, [], Option, None, Some, unwrap_or}
use Rattle.std.specs.Borrow.{Bor}
use Rattle.oas_elements.specs.declared.profile.Profile.{Profile}
use Rattle.oas_elements.specs.declared.element.Element.{Element}
use Rattle.oas_elements.specs.Meaning.{Meaning, SameLayout, elements_of, count_of}
use Rattle.oas_diff_options.specs.declared.choice.ChosenLayer.{ChosenLayer}
use Rattle.oas_diff_options.specs.declared.options.Options.{Options}
use Rattle.oas_diff_options.specs.Choice.{chosen}
use Rattle.oas_difference.specs.Options.{difference_by}

-- equal units, and under each name the same count of each element, where a cell that is not there has none
pub record SameElements (profile : Profile) (a b : Meaning) : Type 0 where
  pub unit : a.unit ≡ b.unit
  pub counts : (name : List ℕ) (e : Element) → count_of profile e (unwrap_or (elements_of name a.cells) []) ≡ count_of profile e (unwrap_or (elements_of name b.cells) [])

-- the same layouts; where layers are named, layouts with the same elements
abbrev pub SameBy : Option (Bor (List ChosenLayer)) → Profile → Meaning → Meaning → Type 0
SameBy None profile a b = SameLayout profile a b
SameBy (Some layers) profile a b = SameElements profile a b

-- whatever the options, nothing is written exactly if what is compared of the layouts is the same
abbrev pub EmptyByOptions : Options → Profile → Type 0
EmptyByOptions options profile =
    (a b : Meaning) → (difference_by options profile a b ≡ []) ↔ SameBy options.choice.layers profile (chosen options.choice a) (chosen options.choice b)

-- and where neither cells nor layers are named, that is all of a layout
abbrev pub AllByDefault : Type 0
AllByDefault = (m : Meaning) → chosen (record { cells = None; layers = None }) m ≡ m
