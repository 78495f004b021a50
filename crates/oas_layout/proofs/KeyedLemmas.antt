-- A run of keys that means elements is the run of these elements, counted.
use Rattle.std.proofs.Common.{◌≡◌, ℕ, ◌+◌, ◌*◌, List, [], ◌∷◌, refl, ap, ◌∙◌, arith}
use Rattle.std.proofs.lemmas.Cmp.{nat_list_cmp_total}
use Rattle.std.proofs.lemmas.List.Sums.{sum_by-cons}
use Rattle.std.proofs.lemmas.Map.Lookups.{exact_bytes}
use Rattle.std.specs.Prelude.{sum_by}
use Rattle.std.specs.List.{AllByRecursion}
use Rattle.std.specs.Ordering.{nat_cmp, match_ordering}
use Rattle.std.specs.Cmp.Lexicographic.{slice_cmp}
use Rattle.std.specs.declared.cmp.Ordering.{Ordering}
use Rattle.std.specs.declared.cmp.Ordering.TheVariants.{Less, Equal, Greater}
use Rattle.oas_elements.specs.declared.profile.Profile.{Profile}
use Rattle.oas_elements.specs.declared.element.Element.{Element}
use Rattle.oas_elements.specs.Element.{element_cmp}
use Rattle.oas_elements.specs.Bag.{put_more}
use Rattle.oas_elements.specs.Contents.{AllSound}
use Rattle.oas_elements.specs.Laws.BagLaws as bags
use Rattle.oas_elements.specs.Same.{normal}
use Rattle.oas_elements.specs.Sound.{IsSound}
use Rattle.oas_elements.proofs.Order.{sound-put_more}
use Rattle.oas_cells.specs.Keys.{key_of}
use Rattle.oas_cells.specs.KeyLaws.{key_order}
use Rattle.oas_runs.specs.Entries.{Entry}
use Rattle.oas_runs.specs.Runs.{IsRun, Positive, total}
use Rattle.oas_cells.specs.Tally.{tally}
use Rattle.oas_cells.specs.TallyLaws.{run_is_tally}
use Rattle.oas_cells.specs.Placing.{MeansElements}
use Rattle.oas_cells.proofs.KeptLemmas.{normal_sound}
use Rattle.oas_layout.specs.Keyed.{keyed}
use Rattle.oas_layout.specs.Counting.{counted}

-- n more of an element's key is the key of n more of it
pub keyed-put_more : (es : List (Element × ℕ)) (e : Element) (n : ℕ) → IsSound e → AllSound es → put_more (slice_cmp nat_cmp) (keyed es) (key_of e) n ≡ keyed (put_more element_cmp es e n)
keyed-put_more [] e n h s = refl
keyed-put_more (p ∷ ps) e n h s =
    ap (λ (r : Ordering). match_ordering r ((key_of e, n) ∷ keyed (p ∷ ps)) ((key_of p.0, p.1 + n) ∷ keyed ps) ((key_of p.0, p.1) ∷ put_more (slice_cmp nat_cmp) (keyed ps) (key_of e) n))
    (key_order e p.0 h s.0)
    ∙ elim (element_cmp e p.0) as (λ r. match_ordering r ((key_of e, n) ∷ keyed (p ∷ ps)) ((key_of p.0, p.1 + n) ∷ keyed ps) ((key_of p.0, p.1) ∷ put_more (slice_cmp nat_cmp) (keyed ps) (key_of e) n)
    ≡ keyed (match_ordering r ((e, n) ∷ p ∷ ps) ((p.0, p.1 + n) ∷ ps) (p ∷ put_more element_cmp ps e n))) [
      | Less ↦ refl
      | Equal ↦ refl
      | Greater ↦ ap (λ (ks : List Entry). (key_of p.0, p.1) ∷ ks) (keyed-put_more ps e n h s.1)
    ]

module _ (profile : Profile) where
  -- sound elements are sound when they are counted
  pub counted_sound : (xs : List Element) → AllByRecursion IsSound xs → AllSound (counted profile xs)
  counted_sound [] h = tt
  counted_sound (x ∷ xs) h = sound-put_more (counted profile xs) (normal profile x) 1 (normal_sound profile x h.0) (counted_sound xs h.1)

  -- the key of each element, once
  abbrev ones : List Element → List Entry
  ones [] = []
  ones (x ∷ xs) = (key_of (normal profile x), 1) ∷ ones xs

  ones_positive : (xs : List Element) → Positive (ones xs)
  ones_positive [] = tt
  ones_positive (x ∷ xs) = (omega arith, ones_positive xs)

  total-ones : (g : List ℕ → ℕ) (xs : List Element) → sum_by (λ e. g (key_of (normal profile e))) xs ≡ total g (ones xs)
  total-ones g [] = refl
  total-ones g (x ∷ xs) = omega (arith, sum_by-cons (λ e. g (key_of (normal profile e))) x xs, total-ones g xs)

  -- counted together they are the keys of the elements, counted
  tally-ones : (xs : List Element) → AllByRecursion IsSound xs → tally (slice_cmp nat_cmp) (ones xs) ≡ keyed (counted profile xs)
  tally-ones [] h = refl
  tally-ones (x ∷ xs) h =
      ap (λ (ks : List Entry). put_more (slice_cmp nat_cmp) ks (key_of (normal profile x)) 1) (tally-ones xs h.1)
      ∙ keyed-put_more (counted profile xs) (normal profile x) 1 (normal_sound profile x h.0) (counted_sound xs h.1)

  same_total : (g : List ℕ → ℕ) (ks : List Entry) → total g ks ≡ bags.total g ks
  same_total g [] = refl
  same_total g (p ∷ ps) = ap (λ (n : ℕ). p.1 * g p.0 + n) (same_total g ps)

  -- the run of the meaning
  pub run_is : (ks : List Entry) (xs : List Element) → IsRun (slice_cmp nat_cmp) ks → MeansElements profile ks xs → AllByRecursion IsSound xs → ks ≡ keyed (counted profile xs)
  run_is ks xs run means sound =
      run_is_tally nat_list_cmp_total exact_bytes ks (ones xs) run (ones_positive xs) (λ g. same_total g ks ∙ means.sums g ∙ total-ones g xs) ∙ tally-ones xs sound
