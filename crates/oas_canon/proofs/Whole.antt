-- A whole run, from its parts.
use Rattle.oas_num.specs.Devices.{Calls}
use Rattle.std.proofs.Common.{◌≡◌, ℕ, ◌⊎◌, inl, inr, Bool, true, false, List, ◌++◌, Option, Some, None, Result, Ok, Err, IfOk, IfErr, IsTrue, ◌↔◌, refl, sym, ◌∙◌, ap, subst, arith}
use Rattle.std.proofs.lemmas.List.{append-nil}
use Rattle.sha2.specs.Sha256.{sha256}
use Rattle.oas_num.specs.declared.refusals.Why.{Why}
use Rattle.oas_num.specs.declared.refusals.Why.TheVariants.{Truncated, Read, InputTooLong, Write, Memory}
use Rattle.oas_num.specs.declared.refusals.Refusal.{Refusal}
use Rattle.oas_num.specs.Script.{Script, Rest, Gave, NoneLeft}
use Rattle.oas_elements.specs.declared.limits.Limits.{Limits}
use Rattle.oas_elements.specs.declared.profile.Profile.{Profile}
use Rattle.oas_elements.specs.Meaning.{SameLayout}
use Rattle.oas_elements.specs.Contents.{Contents, IsLayout, meaning_of}
use Rattle.oas_judge.specs.Acceptance.{Accepted}
use Rattle.oas_num.specs.Refusing.{decides}
use Rattle.oas_judge.specs.Reading.{IsRead, IsRefused}
use Rattle.oas_judge.specs.Bytes.{canonical_bytes}
use Rattle.oas_judge.specs.Canonical.{CanonicalForm, IsCanonicalOf}
use Rattle.oas_num.specs.Written.{IsWritten, IsCutOff}
use Rattle.oas_judge.proofs.Forms.{forms_equal}
use Rattle.oas_judge.proofs.Rekeying.{own}
use Rattle.oas_judge.proofs.Written.{canonical_form}
use Rattle.oas_judge.specs.FormLaws.{form_is_accepted}
use Rattle.oas_judge.specs.Given.{ReadsGiven}
use Rattle.oas_judge.specs.declared.given.Given.{Given}
use Rattle.oas_judge.specs.declared.given.Given.TheVariants.{Canonical, Layout}
use Rattle.oas_judge.specs.Judged.{IsJudged as IsJudgedBy}
use Rattle.oas_judge.specs.Kept.{RefusesKept}
use Rattle.oas_canon.specs.Given.{form_of, AreAlike}
use Rattle.oas_canon.specs.Run.{IsTaken, IsDone, IsCut, IsKeyed, IsJudged, IsCompared, IsDecided, IsWithinSource, Exactly}

module _ {limits : Limits} {profile : Profile} {old new : Script} {l : Contents} (read : IsRead limits profile old l new) where
  pub taken : IsTaken limits old read.bytes new
  taken = record { takes = read.takes; ended = read.ended; accepted = read.accepted }

  -- what is written for it, under the limits and the profile that were handed in
  pub form : IsLayout l → CanonicalForm limits profile (canonical_bytes (meaning_of l))
  form held = subst (λ (p : Limits × Profile). CanonicalForm p.0 p.1 (canonical_bytes (meaning_of l))) (λ i. (read.within i, read.by i)) (canonical_form l held).0

  pub is_form : IsLayout l → IsCanonicalOf limits profile read.bytes (canonical_bytes (meaning_of l))
  is_form held = record { form = form held; source = read.meaning; target = meaning_of l; means = read.means; becomes = (canonical_form l held).1; same = read.same }

-- ---- a file that was read, by its bytes or by its layout

-- an accepted file was taken, and this is its canonical form
pub record HasForm (limits : Limits) (profile : Profile) (old : Script) (canonical : List ℕ) (new : Script) : Type 0 where
  pub bytes : List ℕ
  pub taken : IsTaken limits old bytes new
  pub is : IsCanonicalOf limits profile bytes canonical

pub has_form : {limits : Limits} {profile : Profile} {old new : Script} (given : Given) → ReadsGiven limits profile old (Ok given) new → HasForm limits profile old (form_of given) new
has_form {limits = limits} {profile = profile} (Canonical bytes) given = record {
  bytes = bytes.items;
  taken = record { takes = given.takes; ended = given.ended; accepted = form_is_accepted limits profile bytes.items given.form };
  is = own limits profile bytes.items given.form;
}
has_form (Layout l) read = record { bytes = read.bytes; taken = taken read; is = is_form read read.layout }

module _ {limits : Limits} {profile : Profile} {old new : Script} {canonical : List ℕ} (got : HasForm limits profile old canonical new) where
  pub done : {W : Type 0} (calls : W → Calls) (before after : W) (r : Result ℕ Refusal) →
      IfOk r (IsWritten calls before canonical after) → IfOk r (λ n. IsDone limits profile old new (calls before) (calls after) n)
  done calls before after (Ok n) written = record {
    bytes = got.bytes;
    taken = got.taken;
    canonical = canonical;
    is = got.is;
    count = written.count_is;
    written = written.took;
  }
  done calls before after (Err refusal) written = tt

  pub cut : {W : Type 0} (calls : W → Calls) (before after : W) (r : Result ℕ Refusal) →
      IfErr r (IsCutOff calls before canonical after) →
      IfErr r (λ refusal. refusal.why ≡ Write → IsCut limits profile old new (calls before) (calls after) refusal.at)
  cut calls before after (Ok n) h = tt
  cut calls before after (Err refusal) h = λ _. record {
    bytes = got.bytes;
    taken = got.taken;
    canonical = canonical;
    is = got.is;
    front = h.front;
    back = h.back;
    joined = h.joined;
    took = h.took;
    place = h.place;
  }

  pub keyed : (digest : List ℕ) → digest ≡ sha256 canonical → IsKeyed limits profile old new digest
  keyed digest is = record { bytes = got.bytes; taken = got.taken; canonical = canonical; is = got.is; hashed = is }

-- what is cut off is the writer's fault
pub unwritten : {W : Type 0} (calls : W → Calls) (before after : W) (bytes : List ℕ) (Other : Refusal → Type 0) (r : Result ℕ Refusal) →
    IfErr r (IsCutOff calls before bytes after) → IfErr r (λ refusal. (refusal.why ≡ Write) ⊎ Other refusal)
unwritten calls before after bytes Other (Ok n) h = tt
unwritten calls before after bytes Other (Err refusal) h = inl h.reason

-- ---- one file against its canonical form

abbrev pub judged : {limits : Limits} {profile : Profile} {old new : Script} {yes : Bool} → IsJudgedBy limits profile old yes new → IsJudged limits profile old new yes
judged j = record { bytes = j.bytes; taken = record { takes = j.takes; ended = j.ended; accepted = j.accepted }; answer = j.answer }

-- ---- two files

-- two files mean the same layout exactly if they have one canonical form
pub compared : {limits : Limits} {profile : Profile} {old new mid last : Script} {c e : List ℕ} {same : Bool} → HasForm limits profile old c new →
    HasForm limits profile mid e last → (IsTrue same ↔ (c ≡ e)) → IsCompared limits profile old new mid last same
compared {limits = limits} {profile = profile} {c = c} {e = e} first second h =
    let exactly = forms_equal limits limits profile first.bytes second.bytes c e first.is.source second.is.source first.is second.is first.is.means second.is.means in
    record {
      first = first.bytes;
      second = second.bytes;
      taken_first = first.taken;
      taken_second = second.taken;
      one = first.is.source;
      other = second.is.source;
      means_one = first.is.means;
      means_other = second.is.means;
      answer = (λ t. exactly.1 (h.0 t), λ s. h.1 (exactly.0 s));
    }

-- layouts are the same exactly if their canonical bytes are equal
layouts_alike : (l k : Contents) → IsLayout l → IsLayout k → l.profile ≡ k.profile →
    SameLayout l.profile (meaning_of l) (meaning_of k) ↔ (canonical_bytes (meaning_of l) ≡ canonical_bytes (meaning_of k))
layouts_alike l k held also by =
    let one = canonical_form l held in
    let other = canonical_form k also in
    let b = canonical_bytes (meaning_of l) in
    let d = canonical_bytes (meaning_of k) in
    forms_equal l.limits k.limits l.profile b d b d (meaning_of l) (meaning_of k) (own l.limits l.profile b one.0)
    (own k.limits l.profile d (subst (λ (p : Profile). CanonicalForm k.limits p d) (sym by) other.0)) one.1 other.1

pub layouts_form : (l k : Contents) (same : Bool) → IsLayout l → IsLayout k → l.profile ≡ k.profile → (IsTrue same ↔ SameLayout l.profile (meaning_of l) (meaning_of k)) →
    IsTrue same ↔ (canonical_bytes (meaning_of l) ≡ canonical_bytes (meaning_of k))
layouts_form l k same held also by h = let alike = layouts_alike l k held also by in (λ t. alike.0 (h.0 t), λ e. h.1 (alike.1 e))

-- two that were read by one profile
pub alike : (limits : Limits) (profile : Profile) (old new mid last : Script) (one other : Given) → ReadsGiven limits profile old (Ok one) new → ReadsGiven limits profile mid (Ok other) last → AreAlike one other
alike limits profile old new mid last (Canonical a) (Canonical b) first second = tt
alike limits profile old new mid last (Canonical a) (Layout k) first second = tt
alike limits profile old new mid last (Layout l) (Canonical b) first second = tt
alike limits profile old new mid last (Layout l) (Layout k) first second = (first.layout, second.layout, first.by ∙ sym second.by)

-- ---- for known bytes

-- what was taken to the end is all of it
pub all_given : (bytes : List ℕ) (rest : Rest) (new : Option Rest) → Gave (Some rest) bytes new → NoneLeft new false → bytes ≡ rest.bytes
all_given bytes rest None g n = absurd g
all_given bytes rest (Some r) g n = sym (append-nil bytes) ∙ ap (λ (bs : List ℕ). bytes ++ bs) (sym n.0) ∙ sym g.0

-- the reasons that are not about the bytes
pub data Cause (why : Why) : Type 0 where
  Bytes : IsTrue (decides why) → Cause why
  End : why ≡ Truncated → Cause why
  Device : why ≡ Read → Cause why
  Limit : why ≡ InputTooLong → Cause why
  Writer : why ≡ Write → Cause why
  Room : why ≡ Memory → Cause why

pub cause_of : (why : Why) → Cause why
cause_of Truncated = End refl
cause_of Read = Device refl
cause_of InputTooLong = Limit refl
cause_of Write = Writer refl
cause_of Memory = Room refl
cause_of _ = Bytes refl

pub within_not : (bytes : List ℕ) (rest : Rest) (new : Option Rest) → Gave (Some rest) bytes new → NoneLeft new true → rest.goes_on ≡ false → ⊥
within_not bytes rest None g n e = absurd g
within_not bytes rest (Some r) g n e = let h : ◌≡◌ {A = Bool} true false = sym n.1 ∙ g.1 ∙ e in cc

pub front_not : {limits : Limits} (bytes : List ℕ) (rest : Rest) (new : Option Rest) → Gave (Some rest) bytes new →
    ((more : List ℕ) → Accepted limits (bytes ++ more) → ⊥) → Accepted limits rest.bytes → ⊥
front_not bytes rest None g n a = absurd g
front_not {limits = limits} bytes rest (Some r) g n a = n r.bytes (subst (Accepted limits) g.0 a)

module _ (T : Type 0) {limits : Limits} {old new : Script} where
  pub exactly_refused : (refusal : Refusal) → IsRefused limits old refusal.why new → Exactly {T = T} limits old (Err refusal) new
  exactly_refused refusal f = by_rest old.rest f.takes.rest where
    by_rest : (rest : Option Rest) → Gave rest f.bytes new.rest → IsWithinSource rest → new.failures ≡ 0 → IsDecided {T = T} limits rest (Err refusal)
    by_rest None g w z = tt
    by_rest (Some rest) g w z = by_cause (cause_of refusal.why) where
      by_cause : Cause refusal.why → (refusal.why ≡ Write) ⊎ ((refusal.why ≡ Memory) ⊎ (Accepted limits rest.bytes → ⊥))
      by_cause (Bytes is) = inr (inr (front_not f.bytes rest new.rest g (f.decided is)))
      by_cause (End e) = let t = f.truncated e in inr (inr (λ a. t.0 (subst (Accepted limits) (sym (all_given f.bytes rest new.rest g t.1.none)) a)))
      by_cause (Device e) = absurd (omega (arith, (f.device e).failed, z))
      by_cause (Limit e) = absurd (within_not f.bytes rest new.rest g (f.too_long e).none w)
      by_cause (Writer e) = inl e
      by_cause (Room e) = inr (inl e)

pub exactly_taken : {T : Type 0} {limits : Limits} {old new : Script} {bytes : List ℕ} (value : T) → IsTaken limits old bytes new → Exactly limits old (Ok value) new
exactly_taken {limits = limits} {old = old} {new = new} {bytes = bytes} value t = by_rest old.rest t.takes.rest where
  by_rest : (rest : Option Rest) → Gave rest bytes new.rest → IsWithinSource rest → new.failures ≡ 0 → IsDecided limits rest (Ok value)
  by_rest None g w z = tt
  by_rest (Some rest) g w z = subst (Accepted limits) (all_given bytes rest new.rest g t.ended.none) t.accepted

pub exactly_unwritten : (T : Type 0) (limits : Limits) (old new : Script) (refusal : Refusal) → refusal.why ≡ Write → Exactly {T = T} limits old (Err refusal) new
exactly_unwritten T limits old new refusal e = by_rest old.rest where
  by_rest : (rest : Option Rest) → IsWithinSource rest → new.failures ≡ 0 → IsDecided {T = T} limits rest (Err refusal)
  by_rest None w z = tt
  by_rest (Some rest) w z = inl e

pub exactly_written : {limits : Limits} {profile : Profile} {old new : Script} {canonical : List ℕ} {W : Type 0} (calls : W → Calls) (before after : W)
    (r : Result ℕ Refusal) → HasForm limits profile old canonical new → IfErr r (IsCutOff calls before canonical after) → Exactly limits old r new
exactly_written calls before after (Ok n) got h = exactly_taken n got.taken
exactly_written {limits = limits} {old = old} {new = new} calls before after (Err refusal) got h = exactly_unwritten ℕ limits old new refusal h.reason

-- ---- what a judge returns

module _ (limits : Limits) (profile : Profile) (old new : Script) where
  pub answers_judged : (answer : Result Bool Refusal) → IfOk answer (λ yes. IsJudgedBy limits profile old yes new) → IfOk answer (λ yes. IsJudged limits profile old new yes)
  answers_judged (Ok says) j = judged j
  answers_judged (Err refusal) j = tt

  pub answers_exactly : (answer : Result Bool Refusal) → IfOk answer (λ yes. IsJudgedBy limits profile old yes new) → IfErr answer (λ refusal. RefusesKept limits old refusal new) →
      Exactly limits old answer new
  answers_exactly (Ok says) j refused = exactly_taken says (judged j).taken
  answers_exactly (Err refusal) j refused = exactly_refused Bool refusal refused.0
