-- What reading the head of a file does.
use Rattle.std.specs.Prelude.{List, [], Result, Ok, Err, ℕ}
use Rattle.oas_num.specs.Ratio.{Ratio}
use Rattle.oas_num.specs.Script.{Script, Consumed}
use Rattle.oas_narrow.specs.WideStart.{WideStart}
use Rattle.oas_elements.specs.declared.limits.Limits.{Limits}
use Rattle.oas_narrow.specs.declared.dropping.Dropping.{Dropping}
use Rattle.oas_narrow.specs.declared.places.Rejection.{Rejection}
use Rattle.oas_narrow.specs.Preparable.{IsUnitOf}
use Rattle.oas_narrow.specs.WideFiles.{WidePrefixOf}
use Rattle.oas_prepare.specs.Run.{Stops}

-- the magic and START were taken, with a unit that is that fraction
pub record HasStarted (origin : Script) (start : WideStart) (unit : Ratio) (now : Script) : Type 0 where
  pub bytes : List ℕ
  pub takes : Consumed origin bytes now
  pub front : WidePrefixOf start [] bytes
  pub is_unit : IsUnitOf start.unit unit

abbrev pub ReadsWideHead : Script → Result (WideStart × Ratio) Rejection → Script → Type 0
ReadsWideHead old (Ok both) new = HasStarted old both.0 both.1 new
ReadsWideHead old (Err e) new = (limits : Limits) (dropping : Dropping) → Stops limits dropping old e new
