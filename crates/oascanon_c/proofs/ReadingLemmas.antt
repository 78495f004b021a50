-- What is read of bytes that are at hand.
use Rattle.std.proofs.Common.{◌≡◌, ℕ, ◌≤◌, Bool, true, false, List, length, drop, take, Option, Some, None, Result, Ok, Err, IfOk, IfErr, IsTrue, ◌↔◌, refl, sym, ◌∙◌, subst}
use Rattle.std.specs.Prelude.{nat_lt}
use Rattle.std.proofs.lemmas.Bool.{le-ltb, ltb-false}
use Rattle.std.proofs.lemmas.List.{take_all}
use Rattle.sha2.specs.Sha256.{sha256}
use Rattle.oas_num.specs.declared.refusals.Why.TheVariants.{Memory}
use Rattle.oas_num.specs.declared.refusals.Refusal.{Refusal}
use Rattle.oas_num.specs.Script.{Script, Rest, Gave, NoneLeft, Consumed, IsAtEnd}
use Rattle.oas_elements.specs.declared.limits.Limits.{Limits}
use Rattle.oas_elements.specs.declared.profile.Profile.{Profile}
use Rattle.oas_elements.specs.declared.profile.Profile.TheVariants.{Two}
use Rattle.oas_elements.specs.Contents.{Contents, meaning_of}
use Rattle.oas_elements.specs.Limits.{AreLimits}
use Rattle.oas_elements.specs.Meaning.{Meaning, SameLayout}
use Rattle.oas_prepare.specs.Acceptance.{Accepted, Means}
use Rattle.oas_prepare.specs.FileDeciding.{IsReasoned}
use Rattle.oas_prepare.specs.Reading.{IsRead, IsRefused, IsPlaced, ReadsLayout, Refuses}
use Rattle.oas_prepare.specs.Bytes.{canonical_bytes}
use Rattle.oas_prepare.specs.Canonical.{CanonicalForm, IsCanonicalOf}
use Rattle.oas_prepare.proofs.Held.{form_is_bytes}
use Rattle.oas_prepare.proofs.Written.{canonical_form}
use Rattle.oas_prepare.specs.CanonRun.{IsCompared, IsKeyed, IsTaken as IsTakenBy}
use Rattle.oas_prepare.specs.ReadGiven.{ReadsGiven}
use Rattle.oas_prepare.specs.TheGiven.{Given}
use Rattle.oas_prepare.specs.TheGiven.TheVariants.{Canonical, Layout}
use Rattle.oas_prepare.specs.Which.{Which}
use Rattle.oas_prepare.specs.Which.TheVariants.{First, Second}
use Rattle.oas_prepare.proofs.CanonWhole.{has_form, all_given, Cause, Bytes, End, Device, Limit, Writer, Room, cause_of, front_not, within_not}
use Rattle.oascanon_c.specs.declared.answers.Answer.{Answer}
use Rattle.oascanon_c.specs.declared.answers.Answer.TheVariants.{Done, No, TooSmall, NotLimits, Refused}
use Rattle.oascanon_c.specs.declared.bounds.Bounds.{Bounds}
use Rattle.oascanon_c.specs.Rooms.{Puts}
use Rattle.oascanon_c.specs.Buffers.{over, IsGivenOf, IsTaken, IsReadFrom, IsRefusedFor, Canonicalizes, PutsText, Judges, Compares, AreRead, answered}

-- all that the source is to give
abbrev pub whole : Limits → List ℕ → Rest
whole limits bytes = record { bytes = drop 0 (take limits.input bytes); goes_on = nat_lt limits.input (length bytes) }

-- where the bytes end, none stands after the limit
goes_off : (bytes : List ℕ) (rest : Rest) (new : Option Rest) → Gave (Some rest) bytes new → NoneLeft new false → rest.goes_on ≡ false
goes_off bytes rest None g n = absurd g
goes_off bytes rest (Some r) g n = sym g.1 ∙ n.1

-- what was taken to the end is all of them
pub all_taken : (limits : Limits) (bytes taken : List ℕ) (new : Script) → Consumed (over limits bytes) taken new → IsAtEnd new → (taken ≡ bytes) × (length bytes ≤ limits.input)
all_taken limits bytes taken new t e =
    let off : nat_lt limits.input (length bytes) ≡ false = goes_off taken (whole limits bytes) new.rest t.rest e.none in
    let fits : length bytes ≤ limits.input = ltb-false limits.input (length bytes) off in
    (all_given taken (whole limits bytes) new.rest t.rest e.none ∙ take_all limits.input bytes fits, fits)

module _ {limits : Limits} {bytes : List ℕ} {new : Script} where
  pub read_from : {l : Contents} → IsRead limits Two (over limits bytes) l new → IsReadFrom limits bytes l
  read_from r =
      let all = all_taken limits bytes r.bytes new r.takes r.ended in
      record {
        taken = record { accepted = subst (Accepted limits) all.0 r.accepted; fits = all.1 };
        meaning = r.meaning;
        means = subst (λ (b : List ℕ). Means b r.meaning) all.0 r.means;
        same = r.same;
        layout = r.layout;
        within = r.within;
        by = r.by;
      }

  pub taken_from : {taken : List ℕ} → IsTakenBy limits (over limits bytes) taken new → IsTaken limits bytes × (taken ≡ bytes)
  taken_from {taken = taken} t =
      let all = all_taken limits bytes taken new t.takes t.ended in
      (record { accepted = subst (Accepted limits) all.0 t.accepted; fits = all.1 }, all.0)

  pub refused_for : (refusal : Refusal) → IsRefused limits (over limits bytes) refusal.why new → IsPlaced limits (over limits bytes) refusal new →
      IsReasoned limits (over limits bytes) refusal new → IsRefusedFor limits bytes refusal
  refused_for refusal f p r = record { left = new; refused = f; placed = p; reasoned = r; rightly = rightly } where
    rightly : length bytes ≤ limits.input → Accepted limits bytes → refusal.why ≡ Memory
    rightly h a = by_cause (cause_of refusal.why) where
      all : Accepted limits (whole limits bytes).bytes
      all = subst (Accepted limits) (sym (take_all limits.input bytes h)) a

      by_cause : Cause refusal.why → refusal.why ≡ Memory
      by_cause (Bytes is) = absurd (front_not f.bytes (whole limits bytes) new.rest f.takes.rest (f.decided is) all)
      by_cause (End e) = let t = f.truncated e in absurd (t.0 (subst (Accepted limits) (sym (all_given f.bytes (whole limits bytes) new.rest f.takes.rest t.1.none)) all))
      by_cause (Device e) = let no = sym f.takes.reliable ∙ (f.device e).unreliable in cc
      by_cause (Limit e) = absurd (within_not f.bytes (whole limits bytes) new.rest f.takes.rest (f.too_long e).none (le-ltb limits.input (length bytes) h))
      by_cause (Writer e) = absurd (f.reading e)
      by_cause (Room e) = e

  pub keyed_from : {digest : List ℕ} → IsKeyed limits Two (over limits bytes) new digest → IsTaken limits bytes
      × ((canonical : List ℕ) × IsCanonicalOf limits Two bytes canonical × (digest ≡ sha256 canonical))
  keyed_from k =
      let t = taken_from k.taken in (t.0, (k.canonical, subst (λ (b : List ℕ). IsCanonicalOf limits Two b k.canonical) t.1 k.is, k.hashed))

module _ (limits : Limits) (bytes : List ℕ) (new : Script) where
  pub outcome_read : (r : Result Contents Refusal) → ReadsLayout limits Two (over limits bytes) r new → IfOk r (IsReadFrom limits bytes)
  outcome_read (Ok l) r = read_from r
  outcome_read (Err refusal) r = tt

  pub outcome_refused : (r : Result Contents Refusal) → ReadsLayout limits Two (over limits bytes) r new → IfErr r (IsRefusedFor limits bytes)
  outcome_refused (Ok l) r = tt
  outcome_refused (Err refusal) r = refused_for refusal r.0 r.1 r.2

  given_of : (g : Given) → ReadsGiven limits Two (over limits bytes) (Ok g) new → IsGivenOf limits bytes g
  given_of (Canonical kept) g =
      let h = has_form {limits = limits} {profile = Two} {old = over limits bytes} {new = new} (Canonical kept) g in
      let t = taken_from {limits = limits} {bytes = bytes} {new = new} h.taken in
      let own : kept.items ≡ bytes = (all_taken limits bytes kept.items new g.takes g.ended).0 in
      (t.0, own, subst (λ (b : List ℕ). IsCanonicalOf limits Two bytes b) own (subst (λ (b : List ℕ). IsCanonicalOf limits Two b kept.items) t.1 h.is))
  given_of (Layout l) r = read_from r

  pub outcome_given : (r : Result Given Refusal) → ReadsGiven limits Two (over limits bytes) r new → IfOk r (IsGivenOf limits bytes)
  outcome_given (Ok g) r = given_of g r
  outcome_given (Err refusal) r = tt

  pub outcome_not_given : (r : Result Given Refusal) → ReadsGiven limits Two (over limits bytes) r new → IfErr r (IsRefusedFor limits bytes)
  outcome_not_given (Ok g) r = tt
  outcome_not_given (Err refusal) r = refused_for refusal r.0 r.1 r.2

-- ---- the form of what was read

module _ {limits : Limits} {bytes : List ℕ} {l : Contents} (read : IsReadFrom limits bytes l) where
  pub form : CanonicalForm limits Two (canonical_bytes (meaning_of l))
  form = subst (λ (p : Limits × Profile). CanonicalForm p.0 p.1 (canonical_bytes (meaning_of l))) (λ i. (read.within i, read.by i)) (canonical_form l read.layout).0

  pub is_form : IsCanonicalOf limits Two bytes (canonical_bytes (meaning_of l))
  is_form = record { form = form; source = read.meaning; target = meaning_of l; means = read.means; becomes = (canonical_form l read.layout).1; same = read.same }

  -- whether the bytes are that form
  pub spelled : (says : Bool) → (IsTrue says ↔ (canonical_bytes (meaning_of l) ≡ bytes)) → IsTrue says ↔ CanonicalForm limits Two bytes
  spelled says h = (
    λ t. subst (CanonicalForm limits Two) (h.0 t) form,
    λ f. h.1 (sym (form_is_bytes limits bytes read.meaning l (subst (λ (p : Profile). CanonicalForm limits p bytes) (sym read.by) f) read.means read.layout
        (subst (λ (p : Profile). SameLayout p read.meaning (meaning_of l)) (sym read.by) read.same))),
  )

-- ---- what is told

-- of a file that is its own canonical form
module _ (b : Bounds) {limits : Limits} (are : AreLimits limits b.elements b.weight b.input) {bytes : List ℕ} (taken : IsTaken limits bytes) (own : IsCanonicalOf limits Two bytes bytes) where
  pub own_told : (old new : List ℕ) (a : Answer) → Puts bytes old a new → Canonicalizes b bytes old a new
  own_told old new (Done n) p = (limits, are, (taken, (bytes, own, p)))
  own_told old new (TooSmall n) p = (limits, are, (taken, (bytes, own, p)))
  own_told old new (No n) p = absurd p
  own_told old new NotLimits p = absurd p
  own_told old new (Refused which refusal) p = absurd p

  pub own_judged : Judges b bytes (answered true)
  own_judged = (limits, are, (taken, (own.form, refl)))

module _ (b : Bounds) {limits : Limits} (are : AreLimits limits b.elements b.weight b.input) {bytes : List ℕ} {l : Contents} (read : IsReadFrom limits bytes l) where
  pub form_told : (old new : List ℕ) (a : Answer) → Puts (canonical_bytes (meaning_of l)) old a new → Canonicalizes b bytes old a new
  form_told old new (Done n) p = (limits, are, (read.taken, (canonical_bytes (meaning_of l), is_form read, p)))
  form_told old new (TooSmall n) p = (limits, are, (read.taken, (canonical_bytes (meaning_of l), is_form read, p)))
  form_told old new (No n) p = absurd p
  form_told old new NotLimits p = absurd p
  form_told old new (Refused which refusal) p = absurd p

  pub text_told : (text : Meaning → List ℕ) (old new : List ℕ) (a : Answer) → Puts (text (meaning_of l)) old a new → PutsText text b bytes old a new
  text_told text old new (Done n) p = (limits, are, (read.taken, (l, read, p)))
  text_told text old new (TooSmall n) p = (limits, are, (read.taken, (l, read, p)))
  text_told text old new (No n) p = absurd p
  text_told text old new NotLimits p = absurd p
  text_told text old new (Refused which refusal) p = absurd p

  pub judged : (says : Bool) → (IsTrue says ↔ (canonical_bytes (meaning_of l) ≡ bytes)) → Judges b bytes (answered says)
  judged true h = (limits, are, (read.taken, ((spelled read true h).0 refl, refl)))
  judged false h = (limits, are, (read.taken, (λ f. let no = (spelled read false h).1 f in cc, refl)))

-- ---- two files

module _ (limits : Limits) (one other : List ℕ) (new last : Script) where
  abbrev are_read : {says : Bool} → IsCompared limits Two (over limits one) new (over limits other) last says → AreRead limits one other
  are_read c =
      let first = taken_from c.taken_first in
      let second = taken_from c.taken_second in
      record {
        taken_one = first.0;
        taken_other = second.0;
        first = c.one;
        second = c.other;
        means_first = subst (λ (b : List ℕ). Means b c.one) first.1 c.means_one;
        means_second = subst (λ (b : List ℕ). Means b c.other) second.1 c.means_other;
      }

  pub compares : (b : Bounds) → AreLimits limits b.elements b.weight b.input → (says : Bool) → IsCompared limits Two (over limits one) new (over limits other) last says →
      Compares b one other (answered says)
  compares b are true c = ((limits, are, (are_read c, c.answer.0 refl)), refl)
  compares b are false c = ((limits, are, (are_read c, λ s. let no = c.answer.1 s in cc)), refl)

  pub not_compared : (b : Bounds) → AreLimits limits b.elements b.weight b.input → (which : Which) (refusal : Refusal) → (which ≡ First → Refuses limits (over limits one) refusal new) →
      (which ≡ Second → ((bytes : List ℕ) × IsTakenBy limits (over limits one) bytes new) × Refuses limits (over limits other) refusal last) → Compares b one other (Refused which refusal)
  not_compared b are First refusal first second = let r = first refl in (limits, are, refused_for refusal r.0 r.1 r.2)
  not_compared b are Second refusal first second = let r = second refl in (limits, are, ((taken_from r.0.1).0, refused_for refusal r.1.0 r.1.1 r.1.2))
