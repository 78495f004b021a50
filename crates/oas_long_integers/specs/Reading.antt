-- What a read through a shortened source does to the source beneath.
use Rattle.std.specs.Prelude.{◌≡◌, ℕ, Bool, List, Result, Ok, Err, IsTrue, ◌⊎◌}
use Rattle.oas_num.specs.declared.refusals.Why.{Why}
use Rattle.oas_num.specs.declared.refusals.Why.TheVariants.{Truncated, Read, InputTooLong, Memory}
use Rattle.oas_bytes.specs.declared.readers.Ending.{Ending}
use Rattle.oas_bytes.specs.declared.readers.Ending.TheVariants as ending_of
use Rattle.oas_num.specs.Reading.{is_format, is_cut, NoneFits, NoneWithin}
use Rattle.oas_num.specs.Script.{Script, Consumed, IsAtEnd, HasFailed, IsTooLong}
use Rattle.oas_num.specs.Style.{Any}
use Rattle.oas_record.specs.declared.records.Record.{Record}
use Rattle.oas_record.specs.Records.{after_id}
use Rattle.oas_record.specs.Refusals.{AfterTook}
use Rattle.oas_long_integers.specs.declared.places.Place.{Place}
use Rattle.oas_long_integers.specs.Places.{shortened, after, IsSettled}
use Rattle.oas_long_integers.specs.AnyLength.{first_of}

-- a value was read: the shortened bytes are a spelling of it
pub record ReadsLong {V : Type 0} (first : Place) (spells : V → List ℕ → Type 0) (old : Script) (v : V) (new : Script) : Type 0 where
  pub bytes : List ℕ
  pub short : List ℕ
  pub takes : Consumed old bytes new
  pub is_short : short ≡ shortened first bytes
  pub settled : IsSettled (after first bytes)
  pub spelled : spells v short

-- a read failed: this holds for the shortened bytes
pub record FailsLong {V : Type 0} (first : Place) (spells : V → List ℕ → Type 0) (took : Why → List ℕ → Type 0) (old : Script) (why : Why) (new : Script) : Type 0 where
  pub bytes : List ℕ
  pub short : List ℕ
  pub takes : Consumed old bytes new
  pub is_short : short ≡ shortened first bytes
  pub reason : took why short ⊎ ((why ≡ Memory) × ((v : V) × spells v short))
  pub format : IsTrue (is_format why) → NoneFits spells short
  pub cut : IsTrue (is_cut why) → NoneWithin spells short
  pub truncated : why ≡ Truncated → IsAtEnd new
  pub device : why ≡ Read → HasFailed new
  pub too_long : why ≡ InputTooLong → IsTooLong new

-- what a read does
abbrev pub ReadsAnyLength : {V : Type 0} → Place → (V → List ℕ → Type 0) → (Why → List ℕ → Type 0) → Script → Result V Why → Script → Type 0
ReadsAnyLength first spells took old (Ok v) new = ReadsLong first spells old v new
ReadsAnyLength first spells took old (Err why) new = FailsLong first spells took old why new

-- what a read does with what follows an id of the profile
pub record ReadsRecord (id : ℕ) (old : Script) (result : Result Record Why) (new : Script) : Type 0 where
  pub reads : (in_end : Bool) → ReadsAnyLength (first_of id) (after_id Any in_end id) (AfterTook in_end id) old result new

-- ---- the result of a read through a shortened source

abbrev pub why_of : Why → Ending → Why
why_of Read ending_of.TooLong = InputTooLong
why_of why ending = why

-- unchanged, except that a device's fault is that of a source that was too long, and a record after which a byte is held back
-- is dropped
abbrev pub Judges : {V : Type 0} → Result V Why → Place → Ending → Result V Why → Type 0
Judges (Ok v) place ending (Ok w) = (w ≡ v) × IsSettled place
Judges (Ok v) place ending (Err why) = why ≡ Memory
Judges (Err why) place ending (Ok w) = ⊥
Judges (Err why) place ending (Err then) = then ≡ why_of why ending
