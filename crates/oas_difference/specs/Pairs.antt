-- Two ascending lists of entries side by side.
use Rattle.std.specs.Prelude.{List, [], ◌∷◌, ◌++◌, map, Option, None, Some}
use Rattle.std.specs.declared.cmp.Ordering.{Ordering}
use Rattle.std.specs.declared.cmp.Ordering.TheVariants.{Less, Greater}
use Rattle.std.specs.Map.{keys_of, lookup}
use Rattle.std.specs.BTreeMap.{is_at}
use Rattle.oas_difference.specs.Ascending.{ascending}

-- the number beside a key
abbrev pub found : {K V : Type 0} → (K → K → Ordering) → List (K × V) → K → Option V
found R es k = lookup (is_at (R k)) es

-- for each key of either list, ascending, the numbers beside it in both
abbrev pub side_by_side : {K V : Type 0} → (K → K → Ordering) → List (K × V) → List (K × V) → List (K × (Option V × Option V))
side_by_side R es fs = map (λ k. (k, (found R es k, found R fs k))) (ascending R (keys_of es ++ keys_of fs))

-- ---- their first keys

-- how they are ordered, where there is one; a list without one comes last
abbrev pub first_order : {K V : Type 0} → (K → K → Ordering) → List (K × V) → List (K × V) → Option Ordering
first_order R [] [] = None
first_order R (e ∷ es) [] = Some Less
first_order R [] (f ∷ fs) = Some Greater
first_order R (e ∷ es) (f ∷ fs) = Some (R e.0 f.0)
