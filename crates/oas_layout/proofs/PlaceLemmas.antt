-- A cell in its place among others by name.
use Rattle.std.proofs.Common.{◌≡◌, ℕ, List, [], ◌∷◌, refl, ap}
use Rattle.std.specs.List.{AllByRecursion}
use Rattle.std.specs.Ordering.{nat_cmp, match_ordering}
use Rattle.std.specs.Cmp.Lexicographic.{slice_cmp}
use Rattle.std.specs.BTreeMap.{insert_entry}
use Rattle.std.specs.Map.{keys_of}
use Rattle.std.specs.FinMap.Entries.{by_order, put}
use Rattle.std.specs.declared.cmp.Ordering.TheVariants.{Less, Equal, Greater}
use Rattle.oas_elements.specs.declared.element.Element.{Element}
use Rattle.oas_elements.specs.Bag.{items}
use Rattle.oas_elements.specs.Contents.{Cell, expanded, names}
use Rattle.oas_runs.specs.Entries.{Entry}
use Rattle.oas_layout.specs.Keyed.{keyed, keyed_cells}

-- as keys it goes to the same place
pub keyed-insert : (cs : List Cell) (name : List ℕ) (es : List (Element × ℕ)) → insert_entry (slice_cmp nat_cmp) (keyed_cells cs) name (keyed es) ≡ keyed_cells (insert_entry (slice_cmp nat_cmp) cs name es)
keyed-insert [] name es = refl
keyed-insert (c ∷ cs) name es =
    elim (slice_cmp nat_cmp name c.0) as (λ r. match_ordering r ((name, keyed es) ∷ keyed_cells (c ∷ cs)) ((c.0, keyed es) ∷ keyed_cells cs) ((c.0, keyed c.1) ∷ insert_entry (slice_cmp nat_cmp) (keyed_cells cs) name (keyed es))
    ≡ keyed_cells (match_ordering r ((name, es) ∷ c ∷ cs) ((c.0, es) ∷ cs) (c ∷ insert_entry (slice_cmp nat_cmp) cs name es))) [
      | Less ↦ refl
      | Equal ↦ refl
      | Greater ↦ ap (λ (ks : List (List ℕ × List Entry)). (c.0, keyed c.1) ∷ ks) (keyed-insert cs name es)
    ]

-- and so it does with each element as often as it is there
pub expanded-insert : (cs : List Cell) (name : List ℕ) (es : List (Element × ℕ)) → expanded (insert_entry (slice_cmp nat_cmp) cs name es) ≡ put (slice_cmp nat_cmp) name (items es) (expanded cs)
expanded-insert [] name es = refl
expanded-insert (c ∷ cs) name es =
    elim (slice_cmp nat_cmp name c.0) as (λ r. expanded (match_ordering r ((name, es) ∷ c ∷ cs) ((c.0, es) ∷ cs) (c ∷ insert_entry (slice_cmp nat_cmp) cs name es))
    ≡ by_order r ((name, items es) ∷ expanded (c ∷ cs)) ((c.0, items es) ∷ expanded cs) ((c.0, items c.1) ∷ put (slice_cmp nat_cmp) name (items es) (expanded cs))) [
      | Less ↦ refl
      | Equal ↦ refl
      | Greater ↦ ap (λ (ds : List (List ℕ × List Element)). (c.0, items c.1) ∷ ds) (expanded-insert cs name es)
    ]

-- the names of runs are those of their cells
pub names-keyed : (P : List ℕ → Type 0) (cs : List Cell) → AllByRecursion (λ r. P r.0) (keyed_cells cs) → AllByRecursion (λ c. P c.0) cs
names-keyed P [] h = tt
names-keyed P (c ∷ cs) h = (h.0, names-keyed P cs h.1)

-- and so with elements
pub elements-insert : (P : List (Element × ℕ) → Type 0) (cs : List Cell) (name : List ℕ) (es : List (Element × ℕ)) → P es → AllByRecursion (λ c. P c.1) cs → AllByRecursion (λ c. P c.1) (insert_entry (slice_cmp nat_cmp) cs name es)
elements-insert P [] name es h all = (h, tt)
elements-insert P (c ∷ cs) name es h all =
    elim (slice_cmp nat_cmp name c.0) as (λ r. AllByRecursion (λ c. P c.1) (match_ordering r ((name, es) ∷ c ∷ cs) ((c.0, es) ∷ cs) (c ∷ insert_entry (slice_cmp nat_cmp) cs name es))) [
      | Less ↦ (h, all)
      | Equal ↦ (h, all.1)
      | Greater ↦ (all.0, elements-insert P cs name es h all.1)
    ]

pub keys-keyed_cells : (cs : List Cell) → keys_of (keyed_cells cs) ≡ names cs
keys-keyed_cells [] = refl
keys-keyed_cells (c ∷ cs) = ap (λ (ks : List (List ℕ)). c.0 ∷ ks) (keys-keyed_cells cs)
