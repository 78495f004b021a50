-- What the laws of preparing say.
use Rattle.std.specs.Prelude.{◌≡◌, ℕ, Bool, List}
use Rattle.oas_elements.specs.declared.limits.Limits.{Limits}
use Rattle.oas_elements.specs.declared.profile.Profile.{Profile}
use Rattle.oas_elements.specs.Meaning.{Meaning, SameLayout}
use Rattle.oas_canon.specs.Acceptance.{Accepted}
use Rattle.oas_canon.specs.Canonical.{CanonicalForm, IsCanonicalOf}
use Rattle.oas_narrow.specs.declared.dropping.Dropping.{Dropping}
use Rattle.oas_narrow.specs.declared.dropping.Report.{Report}
use Rattle.oas_narrow.specs.Dropping.{nothing_left_out}
use Rattle.oas_narrow.specs.Preparable.{Preparable, WideMeans}
use Rattle.oas_narrow.specs.WideRecord.{WideRecord}
use Rattle.oas_prepare.specs.Places.{EndsInData}
use Rattle.oas_prepare.specs.Run.{IsPreparedAs}

-- a file of the standard means one layout
abbrev pub OneWideMeaning : Type 0
OneWideMeaning = (b : List ℕ) (m n : Meaning) → WideMeans b m → WideMeans b n → m ≡ n

-- two files whose records are translated to the same layout are prepared to the same bytes, whatever the limits and what is
-- left out
abbrev pub SamePrepared : Type 0
SamePrepared = (one other : Limits) (profile : Profile) (first second : Dropping) (b d c e : List ℕ) (r s : Report) (m n : Meaning) → IsPreparedAs one profile first b c r →
    IsPreparedAs other profile second d e s → WideMeans b m → WideMeans d n → SameLayout profile m n → c ≡ e

-- a file that the profile accepts is prepared, whatever is named to be left out
abbrev pub ProfileIsPrepared : Type 0
ProfileIsPrepared = (limits : Limits) (dropping : Dropping) (b : List ℕ) → Accepted limits b → Preparable limits dropping b

-- to its canonical file, with nothing left out
abbrev pub ProfileAsCanonical : Type 0
ProfileAsCanonical = (limits : Limits) (profile : Profile) (dropping : Dropping) (b c : List ℕ) (r : Report) → Accepted limits b → IsPreparedAs limits profile dropping b c r →
    IsCanonicalOf limits profile b c × (r ≡ nothing_left_out)

-- what is prepared is prepared to itself
abbrev pub PreparedAgain : Type 0
PreparedAgain = (limits : Limits) (profile : Profile) (dropping : Dropping) (c d : List ℕ) (r : Report) → CanonicalForm limits profile c → IsPreparedAs limits profile dropping c d r → d ≡ c

-- the last record of a block's data is at one place, whatever is prepared before it, under any limits
abbrev pub OneLastRecord : Type 0
OneLastRecord = (limits lenient : Limits) (dropping further : Dropping) (in_end : Bool) (records more : List WideRecord) (plain : List ℕ) (at other : ℕ) → EndsInData limits dropping in_end records plain at →
    EndsInData lenient further in_end more plain other → at ≡ other
