-- Lists of keys with counts: what they weigh, and which of them are runs.
use Rattle.std.specs.Prelude.{◌≡◌, ℕ, ◌+◌, ◌*◌, ◌<◌, List, [], ◌∷◌, cond}
use Rattle.std.specs.List.{AllByRecursion}
use Rattle.std.specs.List.Sorted.{IsStrictlySortedBy}
use Rattle.std.specs.Ordering.{is_eq}
use Rattle.std.specs.declared.cmp.Ordering.{Ordering}
use Rattle.std.specs.Map.{keys_of}

module _ {K : Type 0} where
  -- the sum of what each weighs
  abbrev pub total : (K → ℕ) → List (K × ℕ) → ℕ
  total g [] = 0
  total g (p ∷ ps) = p.1 * g p.0 + total g ps

  -- how often a key is there, in any list of keys and counts
  abbrev pub copies : (K → K → Ordering) → K → List (K × ℕ) → ℕ
  copies R k ps = total (λ x. cond (is_eq (R k x)) 1 0) ps

  -- each is there at least once
  abbrev pub Positive : List (K × ℕ) → Type 0
  Positive es = AllByRecursion (λ p. 0 < p.1) es

  -- the keys strictly ascend, and each is there at least once
  pub record IsRun (R : K → K → Ordering) (es : List (K × ℕ)) : Type 0 where
    pub ascending : IsStrictlySortedBy R (keys_of es)
    pub positive : Positive es

  -- whatever a key weighs, both weigh the same
  abbrev pub SameTotals : List (K × ℕ) → List (K × ℕ) → Type 0
  SameTotals ps qs = (g : K → ℕ) → total g ps ≡ total g qs
