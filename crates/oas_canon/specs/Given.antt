-- A file that was read, by its bytes or by its layout.
use Rattle.std.specs.Prelude.{◌≡◌, ℕ, List}
use Rattle.oas_elements.specs.Contents.{meaning_of, IsLayout}
use Rattle.oas_judge.specs.declared.given.Given.{Given}
use Rattle.oas_judge.specs.declared.given.Given.TheVariants.{Canonical, Layout}
use Rattle.oas_judge.specs.Bytes.{canonical_bytes}

-- its canonical file
abbrev pub form_of : Given → List ℕ
form_of (Canonical bytes) = bytes.items
form_of (Layout l) = canonical_bytes (meaning_of l)

-- both are in order, and of one profile
abbrev pub AreAlike : Given → Given → Type 0
AreAlike (Layout l) (Layout k) = IsLayout l × IsLayout k × (l.profile ≡ k.profile)
AreAlike one other = Unit {0}
