-- From the canonical form by profile one to that by profile two.
use Rattle.std.specs.Prelude.{◌↔◌, ℕ, List}
use Rattle.oas_elements.specs.declared.limits.Limits.{Limits}
use Rattle.oas_elements.specs.declared.profile.Profile.{Profile}
use Rattle.oas_elements.specs.declared.profile.Profile.TheVariants.{One, Two}
use Rattle.oas_elements.specs.Meaning.{Meaning, SameLayout}
use Rattle.oas_form.specs.Canonical.{CanonicalForm, IsCanonicalOf}

-- layouts that are the same by profile one are the same by profile two
abbrev pub SameByTwo : Type 0
SameByTwo = (m n : Meaning) → SameLayout One m n → SameLayout Two m n

-- A file and its canonical form by profile one have the same canonical form by profile two, whatever the limits.
abbrev pub OneThenTwo : Type 0
OneThenTwo = (one other : Limits) (b c d : List ℕ) → IsCanonicalOf one One b c → IsCanonicalOf other Two c d ↔ IsCanonicalOf other Two b d

-- a canonical form by profile two is one by profile one
abbrev pub TwoIsOne : Type 0
TwoIsOne = (limits : Limits) (c : List ℕ) → CanonicalForm limits Two c → CanonicalForm limits One c

-- a canonical form is the canonical form of itself
abbrev pub FormIsItsOwn : Type 0
FormIsItsOwn = (limits : Limits) (profile : Profile) (c : List ℕ) → CanonicalForm limits profile c → IsCanonicalOf limits profile c c
