-- Re-keying, from its parts.
use Rattle.std.proofs.Common.{◌≡◌, ℕ, Bool, true, false, List, Option, Some, None, length, sym, ◌∙◌, ap, subst}
use Rattle.oas_num.specs.Devices.{Calls, TakesAll}
use Rattle.oas_num.specs.declared.refusals.Refusal.{Refusal}
use Rattle.oas_num.specs.Script.{Script, Rest, Gave}
use Rattle.oas_num.specs.Written.{IsWritten, IsCutOff}
use Rattle.oas_elements.specs.declared.limits.Limits.{Limits}
use Rattle.oas_elements.specs.declared.profile.Profile.TheVariants.{One, Two}
use Rattle.oas_elements.specs.Contents.{Contents, meaning_of}
use Rattle.oas_judge.specs.Bytes.{canonical_bytes}
use Rattle.oas_judge.specs.Canonical.{CanonicalForm, IsCanonicalOf}
use Rattle.oas_judge.proofs.Forms.{canonical_again}
use Rattle.oas_judge.proofs.Rekeying.{within}
use Rattle.oas_judge.specs.Judged.{IsReadAndJudged}
use Rattle.oas_canon.specs.declared.rekeying.Rekeyed.{Rekeyed}
use Rattle.oas_canon.specs.declared.rekeying.Rekeyed.TheVariants.{Done, NotProfile1}
use Rattle.oas_canon.specs.Rekeying.{IsRekeyed, IsRekeyedInPart, IsOther, Rekeys, StaysSo}
use Rattle.oas_canon.proofs.Whole.{taken, is_form, all_given}

module _ {limits : Limits} {old new : Script} {l : Contents} {own : Bool} (r : IsReadAndJudged limits One Two old l own new) where
  -- it isn't canonical by profile one
  pub other : own ≡ false → IsOther limits old new
  other e = record { bytes = r.read.bytes; taken = taken r.read; other = λ form. let no = sym (r.answer.1 form) ∙ e in cc }

  -- what is written for its layout is its canonical form by profile two
  module _ (told : own ≡ true) {W : Type 0} (calls : W → Calls) (before after : W) where
    pub rekeyed : (n : ℕ) → IsWritten calls before (canonical_bytes (meaning_of l)) after n → IsRekeyed limits old new (calls before) (calls after) n
    rekeyed n w = record {
      done = record { bytes = r.read.bytes; taken = taken r.read; canonical = canonical_bytes (meaning_of l); is = is_form r.read r.read.layout; count = w.count_is; written = w.took };
      own = r.answer.0 told;
    }

    pub in_part : (refusal : Refusal) → IsCutOff calls before (canonical_bytes (meaning_of l)) after refusal →
        IsRekeyedInPart limits old new (calls before) (calls after) refusal.at
    in_part refusal w = record {
      cut = record {
        bytes = r.read.bytes;
        taken = taken r.read;
        canonical = canonical_bytes (meaning_of l);
        is = is_form r.read r.read.layout;
        front = w.front;
        back = w.back;
        joined = w.joined;
        took = w.took;
        place = w.place;
      };
      own = r.answer.0 told;
    }

-- what is canonical by profile two is unchanged
pub stays : (limits : Limits) (old new : Script) (before after : Calls) (rekeyed : Rekeyed) → Rekeys limits old new before after rekeyed → StaysSo limits old.rest before after rekeyed
stays limits old new before after (Done n) r = by_rest old.rest r.done.taken.takes.rest where
  by_rest : (rest : Option Rest) → Gave rest r.done.bytes new.rest → StaysSo limits rest before after (Done n)
  by_rest None g = tt
  by_rest (Some rest) g = λ f.
      let same : r.done.bytes ≡ rest.bytes = all_given r.done.bytes rest new.rest g r.done.taken.ended.none in
      let again : r.done.canonical ≡ rest.bytes = canonical_again limits Two rest.bytes r.done.canonical f (subst (λ (b : List ℕ). IsCanonicalOf limits Two b r.done.canonical) same r.done.is) in
      (ap Done (r.done.count ∙ ap length again), subst (λ (t : List ℕ). TakesAll before t after) again r.done.written)
stays limits old new before after NotProfile1 r = by_rest old.rest r.taken.takes.rest where
  by_rest : (rest : Option Rest) → Gave rest r.bytes new.rest → StaysSo limits rest before after NotProfile1
  by_rest None g = tt
  by_rest (Some rest) g = λ f.
      let same : r.bytes ≡ rest.bytes = all_given r.bytes rest new.rest g r.taken.ended.none in
      absurd (r.other (within limits r.bytes (subst (CanonicalForm limits Two) (sym same) f)))
