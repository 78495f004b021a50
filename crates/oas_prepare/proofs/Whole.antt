-- A whole file, from what was gathered to what was written.
use Rattle.oas_num.specs.Devices.{Calls}
use Rattle.std.proofs.Common.{◌≡◌, ℕ, ◌⊎◌, inl, inr, List, ◌++◌, Option, Some, None, Result, Ok, Err, refl, sym, ◌∙◌, ap, subst, arith}
use Rattle.oas_narrow.specs.Signed.{signed}
use Rattle.oas_narrow.specs.Sums.{AreSums}
use Rattle.oas_num.specs.declared.refusals.Why.TheVariants.{Write, Memory}
use Rattle.oas_num.specs.declared.refusals.Refusal.{Refusal}
use Rattle.oas_num.specs.Script.{Script, Rest, Gave, Consumed}
use Rattle.oas_num.specs.Written.{IsWritten, IsCutOff}
use Rattle.oas_elements.specs.declared.limits.Limits.{Limits}
use Rattle.oas_elements.specs.declared.profile.Profile.{Profile}
use Rattle.oas_elements.specs.Contents.{Contents, meaning_of}
use Rattle.oas_narrow.specs.Stands.{records_mean}
use Rattle.oas_canon.specs.Bytes.{canonical_bytes}
use Rattle.oas_canon.specs.Canonical.{CanonicalForm}
use Rattle.oas_canon.specs.Compact.{compact_store}
use Rattle.oas_canon.proofs.Written.{canonical_form}
use Rattle.oas_canon.proofs.Whole.{Cause, Bytes, End, Device, Limit, Writer, Room, cause_of, all_given, within_not}
use Rattle.oas_narrow.specs.WideWhy.{WideWhy}
use Rattle.oas_narrow.specs.WideWhy.TheVariants as wide
use Rattle.oas_narrow.specs.Reasons.{plain_of}
use Rattle.oas_narrow.specs.declared.dropping.Dropping.{Dropping}
use Rattle.oas_narrow.specs.declared.dropping.Report.{Report}
use Rattle.oas_narrow.specs.declared.places.Place.TheVariants.{File}
use Rattle.oas_narrow.specs.declared.places.Rejection.{Rejection}
use Rattle.oas_narrow.specs.Narrowing.{narrowed}
use Rattle.oas_narrow.specs.Preparable.{Preparable}
use Rattle.oas_narrow.specs.Rejections.{refused}
use Rattle.oas_prepare.specs.Finishing.{GatheredKeys, IsFinished, StopsAtEnd, Broken, Torn, Finishes, IsReadPrepared, ReadsPrepared}
use Rattle.oas_prepare.specs.Gathering.{IsGathered}
use Rattle.oas_prepare.specs.Run.{IsPreparedAs, IsTaken, IsDone, IsCut, IsStopped, Stops, IsDecided, IsWithinSource, Exactly}
use Rattle.oas_prepare.proofs.Ending.{whole_stops, signed_stops, formed}

-- ---- what was gathered

module _ (profile : Profile) {limits : Limits} {dropping : Dropping} {old new : Script} {g : GatheredKeys} (m : IsGathered (compact_store profile) limits dropping old g new) (sums : ℕ × ℕ) (summed : (bytes : List ℕ) → Consumed old bytes new → AreSums sums (signed bytes)) where
  read_done : {l : Contents} {report : Report} → IsFinished profile g sums m.records l report → IsReadPrepared limits profile dropping old l report new
  unfolding formed
  read_done f = record {
    bytes = m.bytes ++ m.last;
    takes = m.takes;
    ended = m.ended;
    formed = formed m f.whole;
    valid = f.right (m.bytes ++ m.last) (summed (m.bytes ++ m.last) m.takes);
    meaning = records_mean g.preparation.reader.unit (narrowed m.records);
    means = record {
      start = m.start;
      records = m.records;
      end = g.end;
      unit = g.preparation.reader.unit;
      file = (formed m f.whole).file;
      is_unit = m.is_unit;
      is = refl;
    };
    same = f.layout.same;
    layout = f.layout.layout;
    within = f.layout.within ∙ m.within;
    by = f.layout.by;
    left_out = f.left_out;
  }

  read_stops : (e : Rejection) → StopsAtEnd g sums m.records e → Stops limits dropping old e new
  read_stops e (Broken wrong is) =
      subst (λ (x : Rejection). Stops limits dropping old x new) (sym is)
      (signed_stops m (wrong (m.bytes ++ m.last) (summed (m.bytes ++ m.last) m.takes)))
  read_stops e (Torn refusal is at right reason) =
      subst (λ (x : Rejection). Stops limits dropping old x new) (sym is)
      (whole_stops m refusal (right (m.bytes ++ m.last) (summed (m.bytes ++ m.last) m.takes)) (at, reason))

  pub finished : (result : Result (Contents × Report) Rejection) → Finishes profile g sums result → ReadsPrepared limits profile dropping old result new
  finished (Ok both) f = read_done (f m.records m.stands)
  finished (Err e) f = read_stops e (f m.records m.stands)

-- ---- what was taken

module _ {limits : Limits} {profile : Profile} {dropping : Dropping} {old new : Script} {canonical : List ℕ} {report : Report} (t : IsTaken limits profile dropping old new canonical report) where
  pub done_by : {W : Type 0} (calls : W → Calls) (before after : W) (n : ℕ) → IsWritten calls before canonical after n → IsDone limits profile dropping old new (calls before) (calls after) report
  done_by calls before after n written = record { canonical = canonical; taken = t; written = written.took }

  pub cut_by : {W : Type 0} (calls : W → Calls) (before after : W) (refusal : Refusal) → IsCutOff calls before canonical after refusal → IsCut limits profile dropping old new (calls before) (calls after) (refused refusal)
  cut_by calls before after refusal h = record {
    canonical = canonical;
    report = report;
    taken = t;
    front = h.front;
    back = h.back;
    joined = h.joined;
    took = h.took;
    place = ap File h.place;
  }

  pub exactly_by : Exactly limits dropping old (Ok report) new
  exactly_by = by_rest old.rest t.takes.rest where
    by_rest : (rest : Option Rest) → Gave rest t.bytes new.rest → IsWithinSource rest → new.failures ≡ 0 → IsDecided limits dropping rest (Ok report)
    by_rest None g w z = tt
    by_rest (Some rest) g w z =
        let p : Preparable limits dropping t.bytes = record { formed = t.is.formed; valid = t.valid } in
        subst (Preparable limits dropping) (all_given t.bytes rest new.rest g t.ended.none) p

-- ---- what was written

module _ {limits : Limits} {profile : Profile} {dropping : Dropping} {old new : Script} {l : Contents} {report : Report} (read : IsReadPrepared limits profile dropping old l report new) where
  form : CanonicalForm limits profile (canonical_bytes (meaning_of l))
  form = subst (λ (p : Limits × Profile). CanonicalForm p.0 p.1 (canonical_bytes (meaning_of l))) (λ i. (read.within i, read.by i)) (canonical_form l read.layout).0

  prepared_as : IsPreparedAs limits profile dropping read.bytes (canonical_bytes (meaning_of l)) report
  prepared_as = record {
    formed = read.formed;
    form = form;
    source = read.meaning;
    target = meaning_of l;
    means = read.means;
    becomes = (canonical_form l read.layout).1;
    same = read.same;
    left_out = read.left_out;
  }

  pub taken : IsTaken limits profile dropping old new (canonical_bytes (meaning_of l)) report
  unfolding prepared_as
  taken = record { bytes = read.bytes; takes = read.takes; ended = read.ended; is = prepared_as; valid = read.valid }

  pub done : {W : Type 0} (calls : W → Calls) (before after : W) (n : ℕ) → IsWritten calls before (canonical_bytes (meaning_of l)) after n →
      IsDone limits profile dropping old new (calls before) (calls after) report
  done = done_by taken

  pub cut : {W : Type 0} (calls : W → Calls) (before after : W) (refusal : Refusal) → IsCutOff calls before (canonical_bytes (meaning_of l)) after refusal →
      IsCut limits profile dropping old new (calls before) (calls after) (refused refusal)
  cut = cut_by taken

  pub exactly_done : Exactly limits dropping old (Ok report) new
  exactly_done = exactly_by taken

-- ---- for known bytes

front_not : {limits : Limits} {dropping : Dropping} (bytes : List ℕ) (rest : Rest) (new : Option Rest) → Gave (Some rest) bytes new →
    ((more : List ℕ) → Preparable limits dropping (bytes ++ more) → ⊥) → Preparable limits dropping rest.bytes → ⊥
front_not bytes rest None g n a = absurd g
front_not {limits = limits} {dropping = dropping} bytes rest (Some r) g n a = n r.bytes (subst (Preparable limits dropping) g.0 a)

-- only out of memory itself is like it
pub memory_is : (why : WideWhy) → plain_of why ≡ Memory → why ≡ wide.Profile Memory
memory_is (wide.Profile reason) e = ap wide.Profile e
memory_is wide.ValueType e = absurd cc
memory_is _ e = absurd cc

pub exactly_stopped : {limits : Limits} {dropping : Dropping} {old new : Script} (e : Rejection) → IsStopped limits dropping old e.why new → Exactly limits dropping old (Err e) new
exactly_stopped {limits = limits} {dropping = dropping} {old = old} {new = new} e f = by_rest old.rest f.takes.rest where
  by_rest : (rest : Option Rest) → Gave rest f.bytes new.rest → IsWithinSource rest → new.failures ≡ 0 → IsDecided limits dropping rest (Err e)
  by_rest None g w z = tt
  by_rest (Some rest) g w z = by_cause (cause_of (plain_of e.why)) where
    by_cause : Cause (plain_of e.why) → (e.why ≡ wide.Profile Write) ⊎ ((e.why ≡ wide.Profile Memory) ⊎ (Preparable limits dropping rest.bytes → ⊥))
    by_cause (Bytes is) = inr (inr (front_not f.bytes rest new.rest g (f.decided is)))
    by_cause (End is) = let t = f.truncated is in inr (inr (λ a. t.0 (subst (Preparable limits dropping) (sym (all_given f.bytes rest new.rest g t.1.none)) a)))
    by_cause (Device is) = absurd (omega (arith, (f.device is).failed, z))
    by_cause (Limit is) = absurd (within_not f.bytes rest new.rest g (f.too_long is).none w)
    by_cause (Writer is) = absurd (f.reading is)
    by_cause (Room is) = inr (inl (memory_is e.why is))

pub exactly_unwritten : (limits : Limits) (dropping : Dropping) (old new : Script) (e : Rejection) → e.why ≡ wide.Profile Write → Exactly limits dropping old (Err e) new
exactly_unwritten limits dropping old new e is = by_rest old.rest where
  by_rest : (rest : Option Rest) → IsWithinSource rest → new.failures ≡ 0 → IsDecided limits dropping rest (Err e)
  by_rest None w z = tt
  by_rest (Some rest) w z = inl is
