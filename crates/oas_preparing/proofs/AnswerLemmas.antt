-- Runs that answer a question about what a file is prepared to.
use Rattle.oas_num.specs.Devices.{Calls}
use Rattle.std.specs.Prelude.{IfOk, IfErr}
use Rattle.std.proofs.Common.{◌≡◌, ℕ, List, Option, Result, Ok, Err, refl}
use Rattle.sha2.specs.Sha256.{sha256}
use Rattle.oas_num.specs.declared.refusals.Refusal.{Refusal}
use Rattle.oas_num.specs.Script.{Script}
use Rattle.oas_num.specs.Written.{IsWritten, IsCutOff}
use Rattle.oas_elements.specs.declared.limits.Limits.{Limits}
use Rattle.oas_elements.specs.Contents.{Contents, meaning_of}
use Rattle.oas_explain.specs.ProfileConstants.{PROFILE}
use Rattle.oas_explain.specs.Bytes.{canonical_bytes}
use Rattle.oas_prepare.specs.NarrowDropping.{Dropping}
use Rattle.oas_prepare.specs.Report.{Report}
use Rattle.oas_prepare.specs.Rejection.{Rejection}
use Rattle.oas_prepare.specs.Finishing.{IsReadPrepared}
use Rattle.oas_prepare.specs.Run.{Stops}
use Rattle.oas_prepare.proofs.Whole.{taken, exactly_done, exactly_stopped}
use Rattle.oas_preparing.specs.Answers.{reported, answered, Delivers, KeysPrepared}

-- ---- what was found, and whether it was written

module _ {T : Type 0} (found : T) {W : Type 0} (calls : W → Calls) (text : T → List ℕ) where
  pub delivers : (written : Result ℕ Refusal) (before after : W) → IfOk written (IsWritten calls before (text found) after) →
      IfErr written (IsCutOff calls before (text found) after) → Delivers calls text before (Ok found) (answered found written) after
  delivers (Ok count) before after whole cut = (refl, whole.took)
  delivers (Err refusal) before after whole cut = record { refusal = refusal; is = refl; cut = cut }

-- what was left out is told of both
pub reports : {T : Type 0} (value : T) (report : Report) (written : Result ℕ Refusal) → answered report written ≡ reported (answered (value, report) written)
reports value report (Ok count) = refl
reports value report (Err refusal) = refl

-- ---- its key

module _ {limits : Limits} {dropping : Dropping} {old new : Script} where
  pub keyed : {l : Contents} {report : Report} → IsReadPrepared limits PROFILE dropping old l report new → (digest : List ℕ) →
      digest ≡ sha256 (canonical_bytes (meaning_of l)) → KeysPrepared limits dropping old (Ok (digest, report)) new
  keyed {l = l} read digest is = record {
    keyed = record { canonical = canonical_bytes (meaning_of l); taken = taken read; hashed = is };
    stopped = tt;
    exactly = exactly_done read;
  }

  pub unkeyed : (e : Rejection) → Stops limits dropping old e new → KeysPrepared limits dropping old (Err e) new
  unkeyed e stops = record { keyed = tt; stopped = stops; exactly = exactly_stopped e stops.0 }
