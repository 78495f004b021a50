-- What a record may be in a canonical file, from the record alone.
use Rattle.std.specs.Prelude.{◌≡◌, ◌≤◌, ◌^◌, ℕ, true, false, List, length, Option, None, Some}
use Rattle.oas_record.specs.declared.references.CellRef.TheVariants.{Name as ByName}
use Rattle.oas_record.specs.declared.records.Record.{Record}
use Rattle.oas_record.specs.declared.records.Record.TheVariants as record_of
use Rattle.oas_elements.specs.declared.element.Element.{Element}
use Rattle.oas_elements.specs.declared.profile.Profile.{Profile}
use Rattle.oas_elements.specs.Grid.{fits_grid}
use Rattle.oas_elements.specs.Same.{normal, IsNormal}
use Rattle.oas_elements.specs.Weight.{weight_of, lacks_points}
use Rattle.oas_writing.specs.Drawn.TheVariants.{Named}
use Rattle.oas_judge.specs.declared.candidates.Candidate.{Candidate}
use Rattle.oas_judge.specs.declared.candidates.Candidate.TheVariants as candidates
use Rattle.oas_judge.specs.Own.{own_drawn}

-- a name that some limits allow
abbrev pub IsShort : List ℕ → Type 0
IsShort name = length name ≤ 2 ^ 30

-- an element that some limits allow: it has its points, is within the grid, and is light
pub record IsDrawable (e : Element) : Type 0 where
  pub points : lacks_points e ≡ false
  pub inside : fits_grid e ≡ true
  pub light : weight_of e ≤ 2 ^ 30

-- the form in which the profile keeps the element, where some limits allow that; or else no canonical file has the element
abbrev pub IsKeptFit : Profile → Element → Option Element → Type 0
IsKeptFit profile own (Some kept) = (kept ≡ normal profile own) × IsDrawable kept
IsKeptFit profile own None = IsDrawable own → IsNormal profile own → ⊥

-- the record draws an element by its own fields, with this kept form
pub record DrawsKept (profile : Profile) (kept : Element) (r : Record) : Type 0 where
  pub element : Element
  pub drawn : own_drawn r ≡ Some (Named element)
  pub form : kept ≡ normal profile element
  pub fit : IsDrawable kept

-- no canonical file has the record
pub record IsNowhere (profile : Profile) (r : Record) : Type 0 where
  pub cell : (name : List ℕ) → r ≡ record_of.Cell (ByName name) → IsShort name → ⊥
  pub element : (e : Element) → own_drawn r ≡ Some (Named e) → IsDrawable e → IsNormal profile e → ⊥

-- what is said of the record is true
abbrev pub IsCandidate : Profile → Candidate → Record → Type 0
IsCandidate profile (candidates.Cell name) r = (r ≡ record_of.Cell (ByName name)) × IsShort name
IsCandidate profile (candidates.Element kept) r = DrawsKept profile kept r
IsCandidate profile candidates.Other r = IsNowhere profile r

-- it is no more than some limits allow
abbrev pub IsFitting : Candidate → Type 0
IsFitting (candidates.Cell name) = IsShort name
IsFitting (candidates.Element kept) = IsDrawable kept
IsFitting candidates.Other = Unit {0}
