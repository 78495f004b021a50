-- What a reader hands over of what it has taken.
use Rattle.std.specs.Prelude.{◌≡◌, ◌≤◌, None}
use Rattle.std.specs.List.{AllByRecursion}
use Rattle.oas_reader.specs.declared.parts.Parts.{Parts}
use Rattle.oas_reader.specs.declared.taken.Taken.{Taken}
use Rattle.oas_reader.specs.Parts.{cells}
use Rattle.oas_reader.specs.Stands.{ReaderState}
use Rattle.oas_reader.specs.Stores.{Store, total_count}

module _ {S : Type 0} where
  -- it is what is kept
  pub record HasParts (t : Store S) (p : Parts S) (taken : Taken S) : Type 0 where
    pub unit : taken.unit ≡ p.unit
    pub limits : taken.limits ≡ p.limits
    pub profile : taken.profile ≡ p.profile
    pub names : taken.names ≡ p.names
    pub strings : taken.strings ≡ p.strings
    pub cells : taken.cells.items ≡ cells p
    pub sound : AllByRecursion t.IsSound taken.cells.items
    pub few : total_count t taken.cells.items ≤ taken.limits.elements

  -- it is what the reader represents; each store is sound, and all have no more elements than the limits allow
  pub record HandsOver (t : Store S) (s : ReaderState S) (taken : Taken S) : Type 0 where
    pub going : s.failed ≡ None
    pub unit : taken.unit ≡ s.unit
    pub limits : taken.limits ≡ s.limits
    pub profile : taken.profile ≡ s.profile
    pub names : taken.names ≡ s.names
    pub strings : taken.strings ≡ s.strings
    pub cells : taken.cells.items ≡ s.cells
    pub sound : AllByRecursion t.IsSound taken.cells.items
    pub few : total_count t taken.cells.items ≤ taken.limits.elements
