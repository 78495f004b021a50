-- What more of an element leaves as it was.
use Rattle.std.proofs.Common.{◌≡◌, ℕ, ◌+◌, List, [], ◌∷◌, sym, subst}
use Rattle.std.specs.Ordering.{match_ordering}
use Rattle.std.specs.declared.cmp.Ordering.TheVariants.{Less, Equal, Greater}
use Rattle.std.specs.List.{AllByRecursion}
use Rattle.std.specs.List.Sorted.{IsStrictlySortedBy}
use Rattle.oas_elements.specs.declared.element.Element.{Element}
use Rattle.oas_elements.specs.Element.{element_cmp}
use Rattle.oas_elements.specs.declared.profile.Profile.{Profile}
use Rattle.oas_elements.specs.Bag.{put_more, IsTally, IsBag}
use Rattle.oas_elements.specs.Same.{IsNormal}
use Rattle.oas_elements.specs.Sound.{IsSound}

-- no elements are a tally
pub IsTally-empty : (es : List (Element × ℕ)) → es ≡ [] → IsTally es
unfolding IsStrictlySortedBy
IsTally-empty es e = subst IsTally (sym e) (record { ascending = tt; positive = tt })

-- kept forms stay kept forms
normal-put_more : (profile : Profile) (es : List (Element × ℕ)) (e : Element) (n : ℕ) → IsNormal profile e → AllByRecursion (λ p. IsNormal profile p.0) es →
    AllByRecursion (λ p. IsNormal profile p.0) (put_more element_cmp es e n)
normal-put_more profile [] e n h p = (h, tt)
normal-put_more profile (x ∷ xs) e n h p =
    elim (element_cmp e x.0) as (λ r. AllByRecursion (λ p. IsNormal profile p.0) (match_ordering r ((e, n) ∷ x ∷ xs) ((x.0, x.1 + n) ∷ xs) (x ∷ put_more element_cmp xs e n))) [
      | Less ↦ (h, p)
      | Equal ↦ p
      | Greater ↦ (p.0, normal-put_more profile xs e n h p.1)
    ]

-- and sound ones sound
pub sound-put_more : (es : List (Element × ℕ)) (e : Element) (n : ℕ) → IsSound e → AllByRecursion (λ p. IsSound p.0) es → AllByRecursion (λ p. IsSound p.0) (put_more element_cmp es e n)
sound-put_more [] e n h p = (h, tt)
sound-put_more (x ∷ xs) e n h p =
    elim (element_cmp e x.0) as (λ r. AllByRecursion (λ p. IsSound p.0) (match_ordering r ((e, n) ∷ x ∷ xs) ((x.0, x.1 + n) ∷ xs) (x ∷ put_more element_cmp xs e n))) [
      | Less ↦ (h, p)
      | Equal ↦ p
      | Greater ↦ (p.0, sound-put_more xs e n h p.1)
    ]

-- what is left once more was added is a bag
pub IsBag-put_more : (profile : Profile) (es fs : List (Element × ℕ)) (e : Element) (n : ℕ) → IsNormal profile e → IsBag profile es → IsTally fs → fs ≡ put_more element_cmp es e n → IsBag profile fs
IsBag-put_more profile es fs e n norm b t same = record {
  tally = t;
  normal = subst (λ (gs : List (Element × ℕ)). AllByRecursion (λ p. IsNormal profile p.0) gs) (sym same) (normal-put_more profile es e n norm b.normal);
}

-- no elements are a bag
pub IsBag-empty : (profile : Profile) (es : List (Element × ℕ)) → es ≡ [] → IsBag profile es
IsBag-empty profile es e = record { tally = IsTally-empty es e; normal = subst (λ (gs : List (Element × ℕ)). AllByRecursion (λ p. IsNormal profile p.0) gs) (sym e) tt }
