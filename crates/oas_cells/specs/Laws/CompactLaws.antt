-- What a store of keys may represent, in whatever order it was drawn.
use Rattle.std.specs.Prelude.{◌<◌, ◌≤◌, ◌*◌, [], ◌∷◌, sum_by, length}
use Rattle.std.specs.declared.cmp.Ordering.{Ordering}
use Rattle.std.specs.declared.cmp.Ordering.TheVariants.{Less, Equal, Greater}
use Rattle.std.specs.List.{AllByRecursion}
use Rattle.std.proofs.Common.{◌≡◌, ℕ, List, refl, ◌∙◌, ap, sym, subst, arith}
use Rattle.std.proofs.lemmas.Cmp.{tied_itself}
use Rattle.std.proofs.lemmas.List.Sums.{sum_by-cons}
use Rattle.oas_elements.specs.declared.profile.Profile.{Profile}
use Rattle.oas_elements.specs.Laws.BagLaws.{total}
use Rattle.oas_reader.specs.Drawn.{Drawn}
use Rattle.oas_reader.specs.DrawingDrawn.{drawn_cmp, weight_so_far}
use Rattle.oas_reader.specs.DrawnLaws.{drawn_total, exact_drawn}
use Rattle.oas_reader.specs.Alike.{SameDrawn}
use Rattle.oas_reader.specs.Weights.{capped}
use Rattle.oas_cells.specs.Compact.{Compact, Keeps, IsSoundNamed, by_key, by_number}

-- ---- what is counted is there

abbrev hit_by : Ordering → ℕ
hit_by Less = 0
hit_by Equal = 1
hit_by Greater = 0

-- one, where x is d
abbrev hit : Drawn → Drawn → ℕ
hit d x = hit_by (drawn_cmp d x)

hit_itself : (d : Drawn) → hit d d ≡ 1
hit_itself d = ap hit_by (tied_itself drawn_total d)

-- what holds for x holds for d, unless x is another
hit_or : (P : Drawn → Type 0) (d x : Drawn) → P x → (hit d x ≡ 0 → P d) → P d
hit_or P d x p other = by (drawn_cmp d x) refl
  where
    by : (r : Ordering) → drawn_cmp d x ≡ r → P d
    by Less e = other (ap hit_by e)
    by Equal e = subst P (sym (exact_drawn d x e)) p
    by Greater e = other (ap hit_by e)

found : (P : Drawn → Type 0) (d : Drawn) (xs : List Drawn) → AllByRecursion P xs → 0 < sum_by (hit d) xs → P d
found P d [] a h = absurd (omega (arith, h))
found P d (x ∷ xs) a h = hit_or P d x a.0 (λ z. found P d xs a.1 (omega (arith, z, sum_by-cons (hit d) x xs, h)))

-- what holds for all that is drawn holds for what is drawn no more often
all_alike : (P : Drawn → Type 0) (xs ys : List Drawn) → AllByRecursion P xs → ((g : Drawn → ℕ) → sum_by g ys ≤ sum_by g xs) → AllByRecursion P ys
all_alike P xs [] a few = tt
all_alike P xs (y ∷ ys) a few = (
  found P y xs a (omega (arith, hit_itself y, sum_by-cons (hit y) y ys, few (hit y))),
  all_alike P xs ys a (λ g. omega (arith, sum_by-cons g y ys, few g)),
)

-- and so where it waits with counts
found_waiting : (P : Drawn → Type 0) (d : Drawn) (ps : List (Drawn × ℕ)) → AllByRecursion (λ p. P p.0) ps → 0 < total (hit d) ps → P d
found_waiting P d [] a h = absurd (omega (arith, h))
found_waiting P d (p ∷ ps) a h = hit_or P d p.0 a.0 (λ z. found_waiting P d ps a.1 (omega (arith, ap (λ (k : ℕ). p.1 * k) z, h)))

-- what is drawn no more often than it waits
pub waits_for : (P : Drawn → Type 0) (d : Drawn) (ps : List (Drawn × ℕ)) → AllByRecursion (λ p. P p.0) ps → ((g : Drawn → ℕ) → g d ≤ total g ps) → P d
waits_for P d ps a few = found_waiting P d ps a (omega (arith, hit_itself d, few (hit d)))

-- ---- what is kept

number_is : (xs : List Drawn) → sum_by (λ _. 1) xs ≡ length xs
number_is [] = refl
number_is (x ∷ xs) = omega (arith, sum_by-cons (λ _. 1) x xs, number_is xs)

pub kept_in_any_order : (profile : Profile) (c : Compact) (ds es : List Drawn) → Keeps profile c ds → SameDrawn ds es → Keeps profile c es
kept_in_any_order profile c ds es keeps same = record {
  count = keeps.count ∙ sym (number_is ds) ∙ same.sums (λ _. 1) ∙ number_is es;
  sound = all_alike IsSoundNamed ds es keeps.sound (λ g. omega (arith, same.sums g));
  weight = keeps.weight ∙ ap capped (same.sums weight_so_far);
  keys = λ g. keeps.keys g ∙ same.sums (by_key profile g);
  waiting = λ g. keeps.waiting g ∙ same.sums (by_number g);
}
