-- A file that is judged as it is read.
use Rattle.oas_num.specs.Devices.{Calls}
use Rattle.std.proofs.Common.{◌≡◌, ℕ, inl, inr, List, Option, None, Some, Result, Ok, Err, refl, sym, ap, subst, arith}
use Rattle.std.specs.Prelude.{IfOk, IfErr, IfSome}
use Rattle.sha2.specs.Sha256.{sha256}
use Rattle.oas_num.specs.declared.refusals.Refusal.{Refusal}
use Rattle.oas_num.specs.Script.{Script, Rest}
use Rattle.oas_num.specs.Written.{IsWritten, IsCutOff}
use Rattle.oas_elements.specs.declared.limits.Limits.{Limits}
use Rattle.oas_explain.specs.ProfileConstants.{PROFILE}
use Rattle.oas_prepare.specs.Attempts.{GivesAgain}
use Rattle.oas_prepare.specs.NarrowDropping.{Dropping}
use Rattle.oas_prepare.specs.Rejection.{Rejection}
use Rattle.oas_prepare.specs.Rejections.{refused}
use Rattle.oas_prepare.specs.Report.{Report}
use Rattle.oas_prepare.specs.Run.{IsTaken, Stops}
use Rattle.oas_prepare.specs.StandardReasons.{plain_of}
use Rattle.oas_prepare.specs.TheGiven.{Given}
use Rattle.oas_prepare.specs.TheGiven.TheVariants.{Canonical, Layout}
use Rattle.oas_prepare.specs.GivenForm.{form_of}
use Rattle.oas_prepare.specs.WideWhy.TheVariants.{Profile}
use Rattle.oas_prepare.proofs.ProfileFiles.{own_taken}
use Rattle.oas_prepare.proofs.Whole.{taken, done_by, cut_by, exactly_by, exactly_stopped, exactly_unwritten}
use Rattle.oas_preparing.specs.Answers.{answered, KeysPrepared}
use Rattle.oas_preparing.specs.Judged.{OnAgain, ReadsJudged}
use Rattle.oas_preparing.specs.Runs.{Prepares}

-- something else is so of the same source
pub on_again : {A B : Type 0} (old : Script) (run : Script → A → Script → Type 0) (other : Script → B → Script → Type 0) (first : A) (second : B) →
    ((again last : Script) → run again first last → other again second last) → OnAgain old run (Some first) → OnAgain old other (Some second)
on_again old run other first second f h = record { again = h.again; last = h.last; gives = h.gives; ran = f h.again h.last h.ran }

-- the same result
pub on_each : {A : Type 0} (old : Script) (run other : Script → A → Script → Type 0) (result : Option A) → ((again last : Script) (a : A) → run again a last → other again a last) → OnAgain old run result → OnAgain old other result
on_each old run other None f h = tt
on_each old run other (Some a) f h = on_again old run other a a (λ again last. f again last a) h

-- a source gives what it gives
pub gives_same : (old again : Script) → again ≡ old → GivesAgain old again
gives_same old again is = subst (λ (s : Script). GivesAgain old s) (sym is) (record { history = refl; given = refl; limit = omega arith; reliable = refl; rest = same_rest old.rest }) where
  same_rest : (rest : Option Rest) → IfSome rest (λ r. rest ≡ Some r)
  same_rest None = tt
  same_rest (Some r) = refl

-- ---- a file that is prepared

module _ {limits : Limits} {dropping : Dropping} {old new : Script} where
  -- to its own bytes, or to those of its layout
  prepared_to : (given : Given) (report : Report) → ReadsJudged limits dropping old (Ok (given, report)) new → IsTaken limits PROFILE dropping old new (form_of given) report
  prepared_to (Canonical bytes) report read =
      subst (λ (r : Report). IsTaken limits PROFILE dropping old new bytes.items r) (sym read.1) (own_taken read.0.form dropping read.0.takes read.0.ended)
  prepared_to (Layout l) report read = taken read

  pub prepares : {W : Type 0} (calls : W → Calls) (before after : W) (given : Given) (report : Report) (written : Result ℕ Refusal) → IfOk written (IsWritten calls before (form_of given) after) →
      IfErr written (IsCutOff calls before (form_of given) after) → ReadsJudged limits dropping old (Ok (given, report)) new → Prepares calls limits dropping old before (answered report written) new after
  prepares calls before after given report (Ok count) whole cut read = record {
    done = done_by (prepared_to given report read) calls before after count whole;
    stopped = tt;
    placed = tt;
    reasoned = tt;
    nothing = tt;
    cut = tt;
    exactly = exactly_by (prepared_to given report read);
  }
  prepares calls before after given report (Err refusal) whole cut read = record {
    done = tt;
    stopped = inl (ap Profile cut.reason);
    placed = inl (ap Profile cut.reason);
    reasoned = inl (ap Profile cut.reason);
    nothing = inl (ap Profile cut.reason);
    cut = λ is. cut_by (prepared_to given report read) calls before after refusal cut;
    exactly = exactly_unwritten limits dropping old new (refused refusal) (ap Profile cut.reason);
  }

  pub keys_given : (given : Given) (report : Report) (digest : List ℕ) → digest ≡ sha256 (form_of given) → ReadsJudged limits dropping old (Ok (given, report)) new → KeysPrepared limits dropping old (Ok (digest, report)) new
  keys_given given report digest is read = record {
    keyed = record { canonical = form_of given; taken = prepared_to given report read; hashed = is };
    stopped = tt;
    exactly = exactly_by (prepared_to given report read);
  }

  -- ---- one that isn't

  pub stops : {W : Type 0} (calls : W → Calls) (before : W) (e : Rejection) → Stops limits dropping old e new → Prepares calls limits dropping old before (Err e) new before
  stops calls before e stopped = record {
    done = tt;
    stopped = inr stopped.0;
    placed = inr stopped.1;
    reasoned = inr stopped.2;
    nothing = inr refl;
    cut = λ is. absurd (stopped.0.reading (ap plain_of is));
    exactly = exactly_stopped e stopped.0;
  }
