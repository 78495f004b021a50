-- Keys in ascending order, each with its count.
use Rattle.std.specs.Prelude.{ℕ, List, [], ◌∷◌, unwrap_or}
use Rattle.std.specs.declared.cmp.Ordering.{Ordering}
use Rattle.std.specs.Map.{lookup}
use Rattle.std.specs.BTreeMap.{is_at}
use Rattle.oas_elements.specs.Bag.{put_more}

module _ {K : Type 0} where
  -- the count beside a key
  abbrev pub count_at : (K → K → Ordering) → List (K × ℕ) → K → ℕ
  count_at R es k = unwrap_or (lookup (is_at (R k)) es) 0

  -- the tally of any list of keys and counts
  abbrev pub tally : (K → K → Ordering) → List (K × ℕ) → List (K × ℕ)
  tally R [] = []
  tally R (p ∷ ps) = put_more R (tally R ps) p.0 p.1
