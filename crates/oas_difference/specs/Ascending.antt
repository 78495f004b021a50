-- What two lists have, in order.
use Rattle.std.specs.Prelude.{List, [], ◌∷◌}
use Rattle.std.specs.BTreeSet.{insert_key}
use Rattle.std.specs.declared.cmp.Ordering.{Ordering}

-- what is in the list, ascending, and each once
abbrev pub ascending : {K : Type 0} → (K → K → Ordering) → List K → List K
ascending cmp [] = []
ascending cmp (k ∷ ks) = insert_key cmp (ascending cmp ks) k
