-- What is kept of an element, which weighs no more than it.
use Rattle.std.proofs.Common.{◌≡◌, ◌≤◌, ◌*◌, ℕ, true, false, sym, ◌∙◌, ap, subst, arith}
use Rattle.oas_elements.specs.declared.profile.Profile.{Profile}
use Rattle.oas_elements.specs.declared.profile.Profile.TheVariants.{One}
use Rattle.oas_elements.specs.declared.element.Element.{Element}
use Rattle.oas_elements.specs.Same.{normal, IsNormal}
use Rattle.oas_elements.specs.Laws.SameLaws.{normal-normal, weight_of-normal, weight_of-normal-le}
use Rattle.oas_elements.specs.Weight.{weight_of, lacks_points}
use Rattle.oas_elements.specs.Grid.{fits_grid}
use Rattle.oas_elements.proofs.SoundLemmas.{lacks_points-normal, fits_grid-normal}
use Rattle.std.proofs.lemmas.Nat.{mul-le}

-- what is kept of an element that was spelled
module _ (profile own : Profile) (e kept : Element) (same : profile ≡ own) (is : kept ≡ normal profile e) where
  -- what is kept is in its kept form
  pub kept_normal : IsNormal own kept
  kept_normal = subst (λ p. IsNormal p kept) same (ap (normal profile) is ∙ normal-normal profile e ∙ sym is)

  -- it has its points
  pub kept_points : lacks_points e ≡ false → lacks_points kept ≡ false
  kept_points h = ap lacks_points is ∙ lacks_points-normal profile e h

  -- it is within the grid
  pub kept_inside : fits_grid e ≡ true → fits_grid kept ≡ true
  kept_inside h = ap fits_grid is ∙ fits_grid-normal profile e h

  -- it weighs no more
  pub kept_lighter : (w n s : ℕ) → w ≡ weight_of e → s ≡ w * n → weight_of kept * n ≤ s
  kept_lighter w n s weight product =
      let less : weight_of (normal profile e) ≤ weight_of e = weight_of-normal-le profile e in
      let much : weight_of (normal profile e) * n ≤ weight_of e * n = mul-le (weight_of (normal profile e)) n (weight_of e) n less (omega arith) in
      let first : weight_of kept * n ≡ weight_of (normal profile e) * n = ap (λ (x : Element). weight_of x * n) is in
      let last : w * n ≡ weight_of e * n = ap (λ (k : ℕ). k * n) weight in
      omega (arith, first, much, last, product)

  -- and under profile one as much
  pub kept_as_spelled : (w n s : ℕ) → w ≡ weight_of e → s ≡ w * n → own ≡ One → weight_of kept * n ≡ s
  kept_as_spelled w n s weight product one =
      ap (λ (x : Element). weight_of x * n) is ∙ ap (λ p. weight_of (normal p e) * n) (same ∙ one) ∙ ap (λ (k : ℕ). k * n) (weight_of-normal e) ∙ sym (ap (λ (k : ℕ). k * n) weight) ∙ sym product
