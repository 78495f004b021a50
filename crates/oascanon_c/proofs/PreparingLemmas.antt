-- What is prepared of bytes that are at hand.
use Rattle.std.proofs.Common.{◌≡◌, ℕ, ◌≤◌, List, ◌++◌, length, Option, Some, None, Result, Ok, Err, IfOk, IfErr, sym, ◌∙◌, ap, subst, arith}
use Rattle.std.proofs.lemmas.Bool.{le-ltb}
use Rattle.std.proofs.lemmas.List.{take_all}
use Rattle.oas_num.specs.declared.refusals.Why.TheVariants.{Memory}
use Rattle.oas_num.specs.Script.{Script, Rest, Gave}
use Rattle.oas_elements.specs.declared.limits.Limits.{Limits}
use Rattle.oas_elements.specs.declared.profile.Profile.{Profile}
use Rattle.oas_elements.specs.declared.profile.Profile.TheVariants.{Two}
use Rattle.oas_elements.specs.Contents.{Contents, IsLayout, meaning_of}
use Rattle.oas_prepare.specs.Bytes.{canonical_bytes}
use Rattle.oas_prepare.specs.Canonical.{CanonicalForm}
use Rattle.oas_prepare.proofs.Written.{canonical_form}
use Rattle.oas_prepare.proofs.CanonWhole.{all_given, Cause, Bytes, End, Device, Limit, Writer, Room, cause_of, within_not}
use Rattle.oas_prepare.specs.Attempts.{ReadsCanonical}
use Rattle.oas_prepare.specs.TheAttempt.{Attempt}
use Rattle.oas_prepare.specs.TheAttempt.TheVariants.{Canonical, Taken}
use Rattle.oas_prepare.specs.Dropping.{nothing_left_out}
use Rattle.oas_prepare.proofs.ProfileFiles.{own_prepared, own_valid}
use Rattle.oas_prepare.specs.NarrowDropping.{Dropping}
use Rattle.oas_prepare.specs.Report.{Report}
use Rattle.oas_prepare.specs.Rejection.{Rejection}
use Rattle.oas_prepare.specs.Preparable.{Preparable}
use Rattle.oas_prepare.specs.WideWhy.TheVariants as wide
use Rattle.oas_prepare.specs.StandardReasons.{plain_of}
use Rattle.oas_prepare.specs.Finishing.{IsReadPrepared, ReadsPrepared}
use Rattle.oas_prepare.specs.Reasons.{IsReasoned}
use Rattle.oas_prepare.specs.Run.{IsPreparedAs, IsStopped, IsPlaced}
use Rattle.oas_prepare.proofs.Whole.{memory_is}
use Rattle.oascanon_c.specs.Buffers.{over}
use Rattle.oascanon_c.specs.Preparing.{IsCanonicalFile, IsPreparedFrom, IsPreparedTo, IsStoppedFor}
use Rattle.oascanon_c.proofs.ReadingLemmas.{all_taken, whole}

-- ---- a file that is prepared

module _ (limits : Limits) (dropping : Dropping) (bytes : List ℕ) (l : Contents) (report : Report) (p : IsPreparedFrom limits dropping bytes l report) (held : IsLayout l) where
  abbrev read : IsReadPrepared limits Two dropping (over limits bytes) l report p.0
  read = p.1

  form : CanonicalForm limits Two (canonical_bytes (meaning_of l))
  form = subst (λ (q : Limits × Profile). CanonicalForm q.0 q.1 (canonical_bytes (meaning_of l))) (λ i. (read.within i, read.by i)) (canonical_form l held).0

  abbrev prepared_as : IsPreparedAs limits Two dropping read.bytes (canonical_bytes (meaning_of l)) report
  prepared_as = record {
    formed = read.formed;
    form = form;
    source = read.meaning;
    target = meaning_of l;
    means = read.means;
    becomes = (canonical_form l held).1;
    same = read.same;
    left_out = read.left_out;
  }

  pub prepared_to : IsPreparedTo limits dropping bytes (canonical_bytes (meaning_of l)) report
  prepared_to =
      let all = all_taken limits bytes read.bytes p.0 read.takes read.ended in
      let fits : length read.bytes ≤ limits.input = omega (arith, ap length all.0, all.1) in
      subst (λ (b : List ℕ). IsPreparedTo limits dropping b (canonical_bytes (meaning_of l)) report) all.0
      (record { is = prepared_as; valid = read.valid; fits = fits })

-- ---- a canonical file

abbrev pub IsWhole : Option Attempt → Type 0
IsWhole (Some (Canonical kept)) = Unit {0}
IsWhole _ = ⊥

-- it is all that was given
pub canonical_file : (limits : Limits) (bytes : List ℕ) (left : Script) (read : Option Attempt) → ReadsCanonical limits Two (over limits bytes) read left → IsWhole read → IsCanonicalFile limits bytes
canonical_file limits bytes left (Some (Canonical kept)) given is =
    let all = all_taken limits bytes kept.items left given.takes given.ended in
    record { form = subst (CanonicalForm limits Two) all.0 given.form; fits = omega (arith, ap length all.0, all.1) }
canonical_file limits bytes left (Some (Taken kept)) given is = absurd is
canonical_file limits bytes left None given is = absurd is

-- and is prepared to itself
pub itself_prepared : (limits : Limits) (dropping : Dropping) (bytes : List ℕ) → IsCanonicalFile limits bytes → IsPreparedTo limits dropping bytes bytes nothing_left_out
itself_prepared limits dropping bytes h = record { is = own_prepared h.form dropping; valid = own_valid h.form dropping; fits = h.fits }

-- ---- one that isn't

front_not : {limits : Limits} {dropping : Dropping} (bytes : List ℕ) (rest : Rest) (new : Option Rest) → Gave (Some rest) bytes new →
    ((more : List ℕ) → Preparable limits dropping (bytes ++ more) → ⊥) → Preparable limits dropping rest.bytes → ⊥
front_not bytes rest None g n a = absurd g
front_not {limits = limits} {dropping = dropping} bytes rest (Some r) g n a = n r.bytes (subst (Preparable limits dropping) g.0 a)

module _ {limits : Limits} {dropping : Dropping} {bytes : List ℕ} {new : Script} where
  pub stopped_for : (rejection : Rejection) → IsStopped limits dropping (over limits bytes) rejection.why new → IsPlaced limits dropping (over limits bytes) rejection new →
      IsReasoned limits dropping (over limits bytes) rejection new → IsStoppedFor limits dropping bytes rejection
  stopped_for rejection f p r = record { left = new; stopped = f; placed = p; reasoned = r; rightly = rightly } where
    rightly : length bytes ≤ limits.input → Preparable limits dropping bytes → rejection.why ≡ wide.Profile Memory
    rightly h a = by_cause (cause_of (plain_of rejection.why)) where
      all : Preparable limits dropping (whole limits bytes).bytes
      all = subst (Preparable limits dropping) (sym (take_all limits.input bytes h)) a

      by_cause : Cause (plain_of rejection.why) → rejection.why ≡ wide.Profile Memory
      by_cause (Bytes is) = absurd (front_not f.bytes (whole limits bytes) new.rest f.takes.rest (f.decided is) all)
      by_cause (End e) =
          let t = f.truncated e in
          absurd (t.0 (subst (Preparable limits dropping) (sym (all_given f.bytes (whole limits bytes) new.rest f.takes.rest t.1.none)) all))
      by_cause (Device e) = let no = sym f.takes.reliable ∙ (f.device e).unreliable in cc
      by_cause (Limit e) = absurd (within_not f.bytes (whole limits bytes) new.rest f.takes.rest (f.too_long e).none (le-ltb limits.input (length bytes) h))
      by_cause (Writer e) = absurd (f.reading e)
      by_cause (Room e) = memory_is rejection.why e

-- ---- what is read

module _ (limits : Limits) (dropping : Dropping) (bytes : List ℕ) (new : Script) where
  pub outcome_prepared : (r : Result (Contents × Report) Rejection) → ReadsPrepared limits Two dropping (over limits bytes) r new → IfOk r (λ both. IsPreparedFrom limits dropping bytes both.0 both.1)
  outcome_prepared (Ok both) r = (new, r)
  outcome_prepared (Err rejection) r = tt

  pub outcome_stopped : (r : Result (Contents × Report) Rejection) → ReadsPrepared limits Two dropping (over limits bytes) r new → IfErr r (IsStoppedFor limits dropping bytes)
  outcome_stopped (Ok both) r = tt
  outcome_stopped (Err rejection) r = stopped_for rejection r.0 r.1 r.2
