-- What waits, placed among the elements.
use Rattle.std.specs.Prelude.{◌≡◌, ℕ, List, [], ◌∷◌, Option, None, Some, IfSome, sum_by}
use Rattle.std.specs.List.{AllByRecursion}
use Rattle.std.specs.Ordering.{nat_cmp}
use Rattle.std.specs.Cmp.Lexicographic.{slice_cmp}
use Rattle.oas_elements.specs.declared.profile.Profile.{Profile}
use Rattle.oas_elements.specs.declared.element.Element.{Element}
use Rattle.oas_elements.specs.Bag.{put_more}
use Rattle.oas_elements.specs.Laws.BagLaws.{total}
use Rattle.oas_elements.specs.Same.{normal}
use Rattle.oas_elements.specs.Sound.{IsSound}
use Rattle.oas_keys.specs.Keys.{key_of}
use Rattle.oas_runs.specs.Entries.{Entry}
use Rattle.oas_cells.specs.Compact.{SameWaiting}
use Rattle.oas_reader.specs.Drawn.{Drawn}
use Rattle.oas_reader.specs.Meaning.{element_by}

-- n more of an element, if it is one
abbrev pub with_placed : Profile → Option Element → ℕ → List Entry → List Entry
with_placed profile None n ks = ks
with_placed profile (Some e) n ks = put_more (slice_cmp nat_cmp) ks (key_of (normal profile e)) n

-- all that waits
abbrev pub placed : Profile → List (ℕ × List ℕ) → List (ℕ × List ℕ) → List (Drawn × ℕ) → List Entry → List Entry
placed profile names strings [] ks = ks
placed profile names strings (p ∷ ps) ks = placed profile names strings ps (with_placed profile (element_by names strings p.0) p.1 ks)

-- the element of what was drawn is sound, where its number has a name
abbrev pub IsSoundBy : List (ℕ × List ℕ) → List (ℕ × List ℕ) → Drawn → Type 0
IsSoundBy names strings d = IfSome (element_by names strings d) IsSound

-- each is
abbrev pub AreSoundBy : List (ℕ × List ℕ) → List (ℕ × List ℕ) → List (Drawn × ℕ) → Type 0
AreSoundBy names strings ps = AllByRecursion (λ p. IsSoundBy names strings p.0) ps

-- of each kept form there are as many keys as elements: whatever each key counts for, the sums are equal
pub record MeansElements (profile : Profile) (ks : List Entry) (es : List Element) : Type 0 where
  pub sums : (g : List ℕ → ℕ) → total g ks ≡ sum_by (λ e. g (key_of (normal profile e))) es

-- all that waits is placed, in some order
pub record Places (profile : Profile) (names strings : List (ℕ × List ℕ)) (ws : List (Drawn × ℕ)) (old new : List Entry) : Type 0 where
  pub order : List (Drawn × ℕ)
  pub same : SameWaiting order ws
  pub is : new ≡ placed profile names strings order old
