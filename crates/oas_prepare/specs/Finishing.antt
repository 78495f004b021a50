-- The result of all that was gathered.
use Rattle.std.specs.Prelude.{◌≡◌, ℕ, List, None, Some, Result, Ok, Err, ◌⊎◌}
use Rattle.oas_num.specs.declared.refusals.Refusal.{Refusal}
use Rattle.oas_num.specs.declared.refusals.Why.TheVariants.{Memory}
use Rattle.oas_num.specs.Script.{Script, Consumed, IsAtEnd}
use Rattle.oas_elements.specs.declared.limits.Limits.{Limits}
use Rattle.oas_elements.specs.declared.profile.Profile.{Profile}
use Rattle.oas_elements.specs.Contents.{Contents, IsLayout, meaning_of}
use Rattle.oas_elements.specs.Meaning.{Meaning, SameLayout}
use Rattle.oas_canon.specs.LayoutOf.{IsLayoutOf}
use Rattle.oas_canon.specs.Compact.{Compact, compact_store}
use Rattle.oas_narrow.specs.Stands.{ReaderState, records_mean, end_refusal}
use Rattle.oas_narrow.specs.WideWhy.TheVariants as wide
use Rattle.oas_narrow.specs.WideRecord.{WideRecord}
use Rattle.oas_narrow.specs.declared.dropping.Dropping.{Dropping}
use Rattle.oas_narrow.specs.declared.dropping.Report.{Report}
use Rattle.oas_narrow.specs.declared.places.Rejection.{Rejection}
use Rattle.oas_narrow.specs.Narrowing.{narrowed, report_of}
use Rattle.oas_narrow.specs.Preparable.{Formed, WideMeans, IsValid}
use Rattle.oas_narrow.specs.Rejections.{refused}
use Rattle.oas_prepare.specs.declared.gathering.Gathered.{Gathered}
use Rattle.oas_prepare.specs.Places.{at_file}
use Rattle.oas_prepare.specs.Run.{Stops}
use Rattle.oas_prepare.specs.Signing.{IsRight, IsWrong}
use Rattle.oas_prepare.specs.Taking.{Stands}

-- all that was gathered, by a reader over cells that are held as keys
abbrev pub GatheredKeys : Type 0
GatheredKeys = Gathered (ReaderState Compact)

-- the layout is the meaning of these records, which END doesn't refuse
pub record IsFinished (profile : Profile) (g : GatheredKeys) (sums : ℕ × ℕ) (ws : List WideRecord) (l : Contents) (report : Report) : Type 0 where
  pub right : IsRight g.end.validation sums
  pub whole : end_refusal g.preparation.reader.limits (narrowed ws) ≡ None
  pub layout : IsLayoutOf profile g.preparation.reader.limits (records_mean g.preparation.reader.unit (narrowed ws)) l
  pub left_out : report ≡ report_of ws

-- it stops at END, where its signature is wrong, out of memory, or where it refuses the records
pub data StopsAtEnd (g : GatheredKeys) (sums : ℕ × ℕ) (ws : List WideRecord) (e : Rejection) : Type 0 where
  Broken : IsWrong g.end.validation sums → e ≡ at_file g.at wide.Checksum → StopsAtEnd g sums ws e
  Torn : (refusal : Refusal) → e ≡ refused refusal → refusal.at ≡ g.at → IsRight g.end.validation sums → (refusal.why ≡ Memory) ⊎ (end_refusal g.preparation.reader.limits (narrowed ws) ≡ Some refusal.why) → StopsAtEnd g sums ws e

-- the sums are those of the file's bytes before a signature
abbrev pub Finishes : Profile → GatheredKeys → ℕ × ℕ → Result (Contents × Report) Rejection → Type 0
Finishes profile g sums (Ok both) = (ws : List WideRecord) → Stands (compact_store profile) g.preparation ws → IsFinished profile g sums ws both.0 both.1
Finishes profile g sums (Err e) = (ws : List WideRecord) → Stands (compact_store profile) g.preparation ws → StopsAtEnd g sums ws e

-- all that the source gave is a file that is prepared, with this layout, and that is left out
pub record IsReadPrepared (limits : Limits) (profile : Profile) (dropping : Dropping) (old : Script) (l : Contents) (report : Report) (new : Script) : Type 0 where
  pub bytes : List ℕ
  pub takes : Consumed old bytes new
  pub ended : IsAtEnd new
  pub formed : Formed limits dropping bytes
  pub valid : IsValid formed.end.validation bytes
  pub meaning : Meaning
  pub means : WideMeans bytes meaning
  pub same : SameLayout profile meaning (meaning_of l)
  pub layout : IsLayout l
  pub within : l.limits ≡ limits
  pub by : l.profile ≡ profile
  pub left_out : report ≡ report_of formed.records

abbrev pub ReadsPrepared : Limits → Profile → Dropping → Script → Result (Contents × Report) Rejection → Script → Type 0
ReadsPrepared limits profile dropping old (Ok both) new = IsReadPrepared limits profile dropping old both.0 both.1 new
ReadsPrepared limits profile dropping old (Err e) new = Stops limits dropping old e new
