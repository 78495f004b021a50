-- What is held of a CELL as keys.
use Rattle.std.specs.Prelude.{◌≡◌, ℕ, ◌+◌, ◌*◌, ◌<◌, Bool, true, false, List, length, sum_by}
use Rattle.std.specs.List.{AllByRecursion}
use Rattle.oas_record.specs.declared.references.CellRef.{CellRef}
use Rattle.oas_elements.specs.declared.profile.Profile.{Profile}
use Rattle.oas_elements.specs.declared.element.Element.{Element}
use Rattle.oas_elements.specs.Laws.BagLaws.{total}
use Rattle.oas_elements.specs.Same.{normal, IsNormal}
use Rattle.oas_elements.specs.Sound.{IsSound}
use Rattle.oas_keys.specs.Keys.{key_of}
use Rattle.oas_runs.specs.Entries.{Entry}
use Rattle.oas_reader.specs.Drawn.{Drawn}
use Rattle.oas_reader.specs.Drawn.TheVariants.{Named, PlacementBy, TextBy}
use Rattle.oas_reader.specs.DrawingDrawn.{weight_so_far}
use Rattle.oas_reader.specs.Finish.{IsFit}
use Rattle.oas_reader.specs.Weights.{capped}
use Rattle.oas_reader.specs.Stores.{Store}

-- its reference, the weight of what its records draw as long as numbers have no names, the keys of the elements that have their
-- names, ascending, and what waits for names, each with its count
pub record Compact : Type 0 where
  pub cell : CellRef
  pub weight : ℕ
  pub keys : List Entry
  pub waiting : List (Drawn × ℕ)

-- how many were drawn
abbrev pub number_drawn : List Entry → List (Drawn × ℕ) → ℕ
number_drawn ks ws = total (λ _. 1) ks + total (λ _. 1) ws

-- whether it isn't drawn by a number
abbrev pub is_named : Drawn → Bool
is_named (Named e) = true
is_named (PlacementBy number x y turns flip) = false
is_named (TextBy number textlayer texttype x y) = false

-- what the key of its kept form counts for, where it has its name
abbrev pub by_key : Profile → (List ℕ → ℕ) → Drawn → ℕ
by_key profile g (Named e) = g (key_of (normal profile e))
by_key profile g (PlacementBy number x y turns flip) = 0
by_key profile g (TextBy number textlayer texttype x y) = 0

-- what it counts for, where it is drawn by a number
abbrev pub by_number : (Drawn → ℕ) → Drawn → ℕ
by_number g (Named e) = 0
by_number g (PlacementBy number x y turns flip) = g (PlacementBy number x y turns flip)
by_number g (TextBy number textlayer texttype x y) = g (TextBy number textlayer texttype x y)

-- it is sound, where it has its name
abbrev pub IsSoundNamed : Drawn → Type 0
IsSoundNamed (Named e) = IsSound e
IsSoundNamed (PlacementBy number x y turns flip) = Unit {0}
IsSoundNamed (TextBy number textlayer texttype x y) = Unit {0}

-- These were drawn: as many, each sound that has its name, and whatever each key counts for, and each thing by a number, the sums
-- are equal.
pub record Keeps (profile : Profile) (c : Compact) (ds : List Drawn) : Type 0 where
  pub count : number_drawn c.keys c.waiting ≡ length ds
  pub sound : AllByRecursion IsSoundNamed ds
  pub weight : c.weight ≡ capped (sum_by weight_so_far ds)
  pub keys : (g : List ℕ → ℕ) → total g c.keys ≡ sum_by (by_key profile g) ds
  pub waiting : (g : Drawn → ℕ) → total g c.waiting ≡ sum_by (by_number g) ds

-- a key is that of a sound element in the form that the profile keeps
pub record IsKey (profile : Profile) (key : List ℕ) : Type 0 where
  pub element : Element
  pub sound : IsSound element
  pub normal : IsNormal profile element
  pub is : key ≡ key_of element

-- each key is
abbrev pub AreKeys : Profile → List Entry → Type 0
AreKeys profile ks = AllByRecursion (λ p. IsKey profile p.0) ks

-- something that waits is drawn by a number, at least once, within the grid
pub record Waits (p : Drawn × ℕ) : Type 0 where
  pub fit : IsFit p.0
  pub numbered : is_named p.0 ≡ false
  pub some : 0 < p.1

-- the same waits, in any order: whatever each counts for, the sums are equal
abbrev pub SameWaiting : List (Drawn × ℕ) → List (Drawn × ℕ) → Type 0
SameWaiting ps qs = (g : Drawn → ℕ) → total g ps ≡ total g qs

-- something more waits, this many times: whatever each counts for, the sum is that much more
pub record WaitsMore (old : List (Drawn × ℕ)) (d : Drawn) (n : ℕ) (new : List (Drawn × ℕ)) : Type 0 where
  pub sums : (g : Drawn → ℕ) → total g new ≡ total g old + n * g d
  pub waits : AllByRecursion Waits old → Waits (d, n) → AllByRecursion Waits new

-- the keys are those of elements, what waits is drawn by numbers, and something was drawn that all of this is
pub record IsCompact (profile : Profile) (c : Compact) : Type 0 where
  pub keys : AreKeys profile c.keys
  pub waiting : AllByRecursion Waits c.waiting
  pub drawn : List Drawn
  pub keeps : Keeps profile c drawn

-- what is held of a cell as keys
abbrev pub compact_store : Profile → Store Compact
compact_store profile = record {
  cell = λ c. c.cell;
  count = λ c. number_drawn c.keys c.waiting;
  IsSound = IsCompact profile;
  Holds = Keeps profile;
}
