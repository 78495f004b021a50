-- Putting cells.
use Rattle.std.proofs.Common.{◌≡◌, ℕ, ◌+◌, ◌*◌, ◌≤◌, ◌^◌, List, [], ◌∷◌, ◌++◌, length, sym, subst, arith}
use Rattle.std.specs.List.{AllByRecursion}
use Rattle.oas_num.specs.Writing.{PutsPrefix}
use Rattle.oas_elements.specs.declared.profile.Profile.{Profile}
use Rattle.oas_elements.specs.Bag.{items}
use Rattle.oas_elements.specs.Contents.{Cell, expanded, IsCell}
use Rattle.oas_elements.specs.Meaning.{cells_weight}
use Rattle.oas_listing.specs.Bytes.{cell_bytes, cells_bytes}
use Rattle.oas_listing.specs.Putting.{PutsAll}
use Rattle.oas_writing.proofs.ElementLemmas.{cells_points}
use Rattle.oas_listing.proofs.FileLengths.{length-cells}
use Rattle.oas_listing.proofs.PuttingLemmas.{PutSoFar, begins, fails_at, part_fits, all_put, ◌▸◌}

-- all of them together
pub all_short : (profile : Profile) (cs : List Cell) → AllByRecursion (IsCell profile) cs → cells_weight (expanded cs) ≤ 2 ^ 30 → length (cells_bytes (expanded cs)) ≤ 64 * 2 ^ 30
all_short profile cs are light = omega (arith, light, length-cells (expanded cs) (cells_points profile cs are))

module _ {K : Type 0} (given : K → List ℕ → K → Type 0) (failures : K → ℕ) where
  -- some of the cells were put, and these are left
  abbrev pub CellsLeft : List Cell → List Cell → K → K → ℕ → Type 0
  CellsLeft all left old now count = PutSoFar given failures (cells_bytes (expanded all)) (cells_bytes (expanded left)) old now count

  pub cells_begin : (all left : List Cell) (s : K) → left ≡ all → CellsLeft all left s s 0
  cells_begin all left s is = subst (λ (cs : List Cell). CellsLeft all cs s s 0) (sym is) (begins s (cells_bytes (expanded all)))

  pub cells_end : (all left : List Cell) {old new : K} {n : ℕ} → CellsLeft all left old new n → left ≡ [] → PutsAll given failures old (cells_bytes (expanded all)) n new
  cells_end all left {old} {new} {n} s none = all_put (subst (λ (cs : List Cell). CellsLeft all cs old new n) none s)

module _ {K : Type 0} {given : K → List ℕ → K → Type 0} {failures : K → ℕ} {old mid : K} {n : ℕ} (all before after : List Cell) (c : Cell) (is : before ≡ c ∷ after)
    (left : PutSoFar given failures (cells_bytes (expanded all)) (cells_bytes (expanded before)) old mid n) where
  split : PutSoFar given failures (cells_bytes (expanded all)) (cell_bytes (c.0, items c.1) ++ cells_bytes (expanded after)) old mid n
  split = subst (λ (cs : List Cell). PutSoFar given failures (cells_bytes (expanded all)) (cells_bytes (expanded cs)) old mid n) is left

  pub cell_fails : {new : K} → PutsPrefix given failures mid (cell_bytes (c.0, items c.1)) new → PutsPrefix given failures old (cells_bytes (expanded all)) new
  cell_fails q = fails_at _ split q

  pub cell_put : {new : K} {m : ℕ} → PutsAll given failures mid (cell_bytes (c.0, items c.1)) m new → PutSoFar given failures (cells_bytes (expanded all)) (cells_bytes (expanded after)) old new (n + m)
  cell_put q = split ▸ q

  pub cell_within : {m : ℕ} → m ≡ length (cell_bytes (c.0, items c.1)) → n + m ≤ length (cells_bytes (expanded all))
  cell_within same = part_fits (cell_bytes (c.0, items c.1)) (cells_bytes (expanded after)) split same
