-- What is drawn after more was drawn.
use Rattle.std.proofs.Common.{◌≡◌, ℕ, ◌+◌, ◌<◌, List, [], ◌∷◌, unwrap_or, sym, ◌∙◌, ap, subst}
use Rattle.std.specs.Ordering.{match_ordering}
use Rattle.std.specs.declared.cmp.Ordering.{Ordering}
use Rattle.std.specs.declared.cmp.Ordering.TheVariants.{Less, Equal, Greater}
use Rattle.std.specs.List.{AllByRecursion}
use Rattle.std.specs.List.Sorted.{IsStrictlySortedBy}
use Rattle.std.specs.Map.{lookup, keys_of}
use Rattle.std.specs.BTreeMap.{is_at, insert_entry}
use Rattle.oas_elements.specs.Laws.BagLaws.{insert_entry-count}
use Rattle.oas_drawing.specs.declared.drawn.Drawn.{Drawn}
use Rattle.oas_drawing.specs.Laws.DrawnLaws.{derived_cmp, stated_cmp, drawn_total}
use Rattle.oas_reader.specs.Held.{IsHeld, times_drawn, with_drawn}

-- the count that a look-up finds
pub times_drawn-derived : (ds : List (Drawn × ℕ)) (d : Drawn) → unwrap_or (lookup (is_at (derived_cmp d)) ds) 0 ≡ times_drawn ds d
times_drawn-derived ds d = ap (λ (R : Drawn → Drawn → Ordering). unwrap_or (lookup (is_at (R d)) ds) 0) stated_cmp

-- each is drawn at least once
abbrev Positive : List (Drawn × ℕ) → Type 0
Positive ds = AllByRecursion (λ p. 0 < p.1) ds

-- an insertion of a positive count keeps that
positive-insert_entry : (R : Drawn → Drawn → Ordering) (ds : List (Drawn × ℕ)) (d : Drawn) (n : ℕ) → 0 < n → Positive ds → Positive (insert_entry R ds d n)
positive-insert_entry R [] d n h p = (h, tt)
positive-insert_entry R (x ∷ xs) d n h p =
    elim (R d x.0) as (λ r. Positive (match_ordering r ((d, n) ∷ x ∷ xs) ((x.0, n) ∷ xs) (x ∷ insert_entry R xs d n))) [
      | Less ↦ (h, p)
      | Equal ↦ (h, p.1)
      | Greater ↦ (p.0, positive-insert_entry R xs d n h p.1)
    ]

-- what an insertion leaves is held
pub IsHeld-insert_entry : (ds es : List (Drawn × ℕ)) (d : Drawn) (n : ℕ) → IsHeld ds → 0 < n → IsStrictlySortedBy derived_cmp (keys_of es) → es ≡ insert_entry derived_cmp ds d n → IsHeld es
IsHeld-insert_entry ds es d n held h s same = record {
  ascending = subst (λ (R : Drawn → Drawn → Ordering). IsStrictlySortedBy R (keys_of es)) stated_cmp s;
  positive = subst Positive (sym same) (positive-insert_entry derived_cmp ds d n h held.positive);
}

-- nothing is held
pub IsHeld-empty : (ds : List (Drawn × ℕ)) → ds ≡ [] → IsHeld ds
unfolding IsStrictlySortedBy
IsHeld-empty ds e = subst IsHeld (sym e) (record { ascending = tt; positive = tt })

-- what an insertion leaves
pub with_drawn-inserted : (ds es : List (Drawn × ℕ)) (d : Drawn) (n : ℕ) → IsHeld ds → es ≡ insert_entry derived_cmp ds d (unwrap_or (lookup (is_at (derived_cmp d)) ds) 0 + n) → es ≡ with_drawn ds d n
with_drawn-inserted ds es d n held is =
    is ∙ ap (λ (k : ℕ). insert_entry derived_cmp ds d (k + n)) (times_drawn-derived ds d) ∙ ap (λ (R : Drawn → Drawn → Ordering). insert_entry R ds d (times_drawn ds d + n)) stated_cmp
    ∙ insert_entry-count drawn_total ds d n held.ascending
