-- The difference of what is compared of two layouts is that of what they hold of it.
use Rattle.std.proofs.Common.{◌≡◌, ◌∙◌, ℕ, ◌^◌, ◌<◌, ◌++◌, List, length, sym, subst, None}
use Rattle.oas_elements.specs.declared.profile.Profile.{Profile}
use Rattle.oas_elements.specs.Meaning.{Meaning}
use Rattle.oas_elements.specs.Contents.{Contents, meaning_of, IsLayout}
use Rattle.oas_diff_options.specs.Choice.{chosen}
use Rattle.oas_difference.specs.Difference.{unit_changes}
use Rattle.oas_difference.specs.Format.{notation_of}
use Rattle.oas_difference.specs.Options.{detailed, compared}
use Rattle.oas_difference.specs.Held.{cells_chosen, contents_chosen, held_lines}
use Rattle.oas_diff_options.specs.declared.options.Options.{Options}
use Rattle.oas_difference.proofs.BriefHeld.{detailed_held}
use Rattle.oas_difference.proofs.Chosen.{all_by_default, layout_chosen, meaning_chosen}
use Rattle.oas_difference.proofs.Lengths.{short_enough}

module _ (options : Options) (a b : Contents) (k : IsLayout a) (l : IsLayout b) (alike : a.profile ≡ b.profile) where
  pub compared_held : compared options a.profile (meaning_of a) (meaning_of b)
      ≡ unit_changes options.format.syntax a.unit b.unit
      ++ held_lines options.choice.layers options.detail (notation_of options.format a.unit b.unit) (cells_chosen options.choice a.cells) (cells_chosen options.choice b.cells)
  compared_held =
      (λ i. detailed options.choice.layers options.detail options.format a.profile (sym (meaning_chosen options.choice a) i) (sym (meaning_chosen options.choice b) i))
      ∙ detailed_held options.choice.layers options.detail options.format (contents_chosen options.choice a) (contents_chosen options.choice b) (layout_chosen options.choice a k) (layout_chosen options.choice b l) alike

  pub compared_short : length (compared options a.profile (meaning_of a) (meaning_of b)) < 2 ^ 63
  compared_short =
      subst (λ (text : List ℕ). length text < 2 ^ 63) (sym compared_held)
      (short_enough options.choice.layers options.detail options.format (contents_chosen options.choice a) (contents_chosen options.choice b) (layout_chosen options.choice a k) (layout_chosen options.choice b l))

-- where neither cells nor layers are named, all is compared
pub compared_by_default : (options : Options) → options.choice ≡ record { cells = None; layers = None } → (profile : Profile) (a b : Meaning) →
    compared options profile a b ≡ detailed None options.detail options.format profile a b
compared_by_default options all profile a b =
    (λ i. detailed (all i).layers options.detail options.format profile (chosen (all i) a) (chosen (all i) b))
    ∙ (λ i. detailed None options.detail options.format profile (all_by_default a i) (all_by_default b i))
