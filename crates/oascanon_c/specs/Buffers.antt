-- What each call promises of the bytes that it was given.
use Rattle.std.specs.Prelude.{◌≡◌, ℕ, ◌≤◌, Bool, true, false, List, length, ⊤}
use Rattle.sha2.specs.Sha256.{sha256}
use Rattle.oas_num.specs.declared.refusals.Refusal.{Refusal}
use Rattle.oas_num.specs.declared.refusals.Why.TheVariants.{Memory}
use Rattle.oas_num.specs.Script.{Script, slice_script}
use Rattle.oas_elements.specs.declared.limits.Limits.{Limits}
use Rattle.oas_elements.specs.declared.profile.Profile.TheVariants.{Two}
use Rattle.oas_elements.specs.Limits.{IsLimits, AreLimits}
use Rattle.oas_elements.specs.Contents.{Contents, IsLayout, meaning_of}
use Rattle.oas_elements.specs.Meaning.{Meaning, SameLayout}
use Rattle.oas_prepare.specs.Listing.{listing}
use Rattle.oas_prepare.specs.CellKeys.{cell_key_lines}
use Rattle.oas_prepare.specs.Acceptance.{Accepted, Means}
use Rattle.oas_prepare.specs.FileDeciding.{IsReasoned}
use Rattle.oas_prepare.specs.Reading.{IsRefused, IsPlaced}
use Rattle.oas_prepare.specs.Canonical.{CanonicalForm, IsCanonicalOf}
use Rattle.oas_prepare.specs.TheGiven.{Given}
use Rattle.oas_prepare.specs.TheGiven.TheVariants.{Canonical, Layout}
use Rattle.oas_prepare.specs.Which.TheVariants.{First, Second}
use Rattle.oascanon_c.specs.declared.answers.Answer.{Answer}
use Rattle.oascanon_c.specs.declared.answers.Answer.TheVariants.{Done, No, TooSmall, NotLimits, Refused}
use Rattle.oascanon_c.specs.declared.bounds.Bounds.{Bounds}
use Rattle.oascanon_c.specs.Rooms.{Puts}

-- a source of these bytes under the limit of the input, before it gave any
abbrev pub over : Limits → List ℕ → Script
over limits bytes = slice_script bytes limits.input 0

-- These bytes are refused, at this place and for this reason, as `read_layout` says. Accepted ones of allowed length are
-- refused for lack of memory alone.
pub record IsRefusedFor (limits : Limits) (bytes : List ℕ) (refusal : Refusal) : Type 0 where
  pub left : Script
  pub refused : IsRefused limits (over limits bytes) refusal.why left
  pub placed : IsPlaced limits (over limits bytes) refusal left
  pub reasoned : IsReasoned limits (over limits bytes) refusal left
  pub rightly : length bytes ≤ limits.input → Accepted limits bytes → refusal.why ≡ Memory

-- the bytes are an accepted file, and no more of them than an input may have
pub record IsTaken (limits : Limits) (bytes : List ℕ) : Type 0 where
  pub accepted : Accepted limits bytes
  pub fits : length bytes ≤ limits.input

-- the layout that is read of bytes
pub record IsReadFrom (limits : Limits) (bytes : List ℕ) (l : Contents) : Type 0 where
  pub taken : IsTaken limits bytes
  pub meaning : Meaning
  pub means : Means bytes meaning
  pub same : SameLayout Two meaning (meaning_of l)
  pub layout : IsLayout l
  pub within : l.limits ≡ limits
  pub by : l.profile ≡ Two

-- what is read of bytes: these themselves, which are their own canonical form, or their layout
abbrev pub IsGivenOf : Limits → List ℕ → Given → Type 0
IsGivenOf limits bytes (Canonical kept) = IsTaken limits bytes × (kept.items ≡ bytes) × IsCanonicalOf limits Two bytes bytes
IsGivenOf limits bytes (Layout l) = IsReadFrom limits bytes l

-- the limits that the three numbers are
abbrev pub Within : Bounds → (Limits → Type 0) → Type 0
Within b P = (limits : Limits) × AreLimits limits b.elements b.weight b.input × P limits

-- of one file: no limits, a refusal, or an answer about a file that is taken; without an answer the output is as it was
abbrev pub Tells : Bounds → List ℕ → Type 0 → (Limits → Answer → Type 0) → Answer → Type 0
Tells b bytes same answers (Done n) = Within b (λ limits. IsTaken limits bytes × answers limits (Done n))
Tells b bytes same answers (No n) = Within b (λ limits. IsTaken limits bytes × answers limits (No n))
Tells b bytes same answers (TooSmall n) = Within b (λ limits. IsTaken limits bytes × answers limits (TooSmall n))
Tells b bytes same answers NotLimits = (IsLimits b.elements b.weight b.input → ⊥) × same
Tells b bytes same answers (Refused First refusal) = Within b (λ limits. IsRefusedFor limits bytes refusal) × same
Tells b bytes same answers (Refused Second refusal) = ⊥

-- what is told of a question's answer
abbrev pub answered : Bool → Answer
answered true = Done 0
answered false = No 0

abbrev pub YesOrNo : Type 0 → Answer → Type 0
YesOrNo P (Done n) = P × (n ≡ 0)
YesOrNo P (No n) = (P → ⊥) × (n ≡ 0)
YesOrNo P _ = ⊥

-- the canonical form of the bytes is put
abbrev pub Canonicalizes : Bounds → List ℕ → List ℕ → Answer → List ℕ → Type 0
Canonicalizes b bytes old answer new = Tells b bytes (new ≡ old) (λ limits a. (canonical : List ℕ) × IsCanonicalOf limits Two bytes canonical × Puts canonical old a new) answer

-- a text of the layout that is read of the bytes is put
abbrev pub PutsText : (Meaning → List ℕ) → Bounds → List ℕ → List ℕ → Answer → List ℕ → Type 0
PutsText text b bytes old answer new = Tells b bytes (new ≡ old) (λ limits a. (l : Contents) × IsReadFrom limits bytes l × Puts (text (meaning_of l)) old a new) answer

-- its listing
abbrev pub Lists : Bounds → List ℕ → List ℕ → Answer → List ℕ → Type 0
Lists b bytes old answer new = PutsText listing b bytes old answer new

-- the keys of its cells
abbrev pub ListsKeys : Bounds → List ℕ → List ℕ → Answer → List ℕ → Type 0
ListsKeys b bytes old answer new = PutsText cell_key_lines b bytes old answer new

-- whether the bytes are a canonical form
abbrev pub Judges : Bounds → List ℕ → Answer → Type 0
Judges b bytes answer = Tells b bytes ⊤ (λ limits a. YesOrNo (CanonicalForm limits Two bytes) a) answer

-- the SHA-256 of the canonical form of the bytes is put
abbrev pub Keys : Bounds → List ℕ → List ℕ → Answer → List ℕ → Type 0
Keys b bytes old answer new = Tells b bytes (new ≡ old) (λ limits a. (canonical : List ℕ) × IsCanonicalOf limits Two bytes canonical × (a ≡ Done 32) × (new ≡ sha256 canonical)) answer

-- both files are taken, and mean these
pub record AreRead (limits : Limits) (one other : List ℕ) : Type 0 where
  pub taken_one : IsTaken limits one
  pub taken_other : IsTaken limits other
  pub first : Meaning
  pub second : Meaning
  pub means_first : Means one first
  pub means_second : Means other second

-- whether the bytes mean one layout; a refusal is that of the file that it names, and of the second where the first is taken
abbrev pub Compares : Bounds → List ℕ → List ℕ → Answer → Type 0
Compares b one other (Done n) = Within b (λ limits. (r : AreRead limits one other) × SameLayout Two r.first r.second) × (n ≡ 0)
Compares b one other (No n) = Within b (λ limits. (r : AreRead limits one other) × (SameLayout Two r.first r.second → ⊥)) × (n ≡ 0)
Compares b one other (TooSmall n) = ⊥
Compares b one other NotLimits = IsLimits b.elements b.weight b.input → ⊥
Compares b one other (Refused First refusal) = Within b (λ limits. IsRefusedFor limits one refusal)
Compares b one other (Refused Second refusal) = Within b (λ limits. IsTaken limits one × IsRefusedFor limits other refusal)
