-- From a read through a shortened source to the source beneath.
use Rattle.std.proofs.Common.{◌≡◌, ◌≢◌, ℕ, List, ◌++◌, Some, None, Result, Ok, Err, IsTrue, ◌⊎◌, inl, inr, refl, sym, ap, subst, ◌∙◌}
use Rattle.std.proofs.lemmas.List.{append-nil, append_cancel_left}
use base.Fml.{GName}
use Rattle.oas_bytes.specs.declared.readers.Ending.{Ending}
use Rattle.oas_bytes.specs.declared.readers.Ending.TheVariants as ending_of
use Rattle.oas_num.specs.declared.refusals.Why.{Why}
use Rattle.oas_num.specs.declared.refusals.Why.TheVariants.{Read, InputTooLong, Memory}
use Rattle.oas_num.specs.SourceFault.TheVariants.{Device, TooLong}
use Rattle.oas_num.specs.Reading.{is_cut, ReadsValue, FailsPiece, ReadsPiece}
use Rattle.oas_num.specs.Script.{Script, since, Consumed, IsAtEnd, HasFailed, IsTooLong}
use Rattle.oas_long_integers.specs.declared.places.Place.{Place}
use Rattle.oas_long_integers.specs.Places.{shortened, after, IsSettled}
use Rattle.oas_long_integers.specs.Shortening.{short_settled, short_script, IsEnding, IsShortened}
use Rattle.oas_bytes.proofs.ScriptLemmas.{since_none}
use Rattle.oas_long_integers.specs.Reading.{ReadsLong, FailsLong, ReadsAnyLength, why_of, Judges}

-- the bytes that were taken, and those that were given for them
record Both (first : Place) (old : Script) (short : List ℕ) (new : Script) (place : Place) : Type 0 where
  pub bytes : List ℕ
  pub takes : Consumed old bytes new
  pub is_short : short ≡ shortened first bytes
  pub settled : IsSettled place → IsSettled (after first bytes)

module _ {start : Script} {name : GName} {first : Place} {same : GName} {now : Script} {place : Place} {kept : ℕ} {ending : Ending} (f : IsShortened start name first same now place kept ending) where
  both : (short : List ℕ) → Consumed (short_script start first start first 0 ending_of.Open) short (short_script start first now place kept ending) → Both first start short now place
  both short k = record {
    bytes = since start now;
    takes = f.takes;
    is_short = sym (append_cancel_left start.history (shortened first (since start now)) short (k.history ∙ ap (λ (x : List ℕ). x ++ short) none));
    settled = λ s. subst IsSettled f.stands s;
  } where
    none : start.history ++ shortened first (since start start) ≡ start.history
    none = ap (λ (x : List ℕ). start.history ++ shortened first x) (since_none start) ∙ append-nil start.history

-- ---- how it ended

at_end : (ending : Ending) (now : Script) → IsEnding ending now → short_settled ending ≡ Some (Ok None) → IsAtEnd now
at_end ending_of.Open now h e = absurd cc
at_end ending_of.Ended now h e = h
at_end ending_of.Failed now h e = absurd cc
at_end ending_of.TooLong now h e = absurd cc

never_too_long : (ending : Ending) → short_settled ending ≡ Some (Err TooLong) → ⊥
never_too_long ending_of.Open e = cc
never_too_long ending_of.Ended e = cc
never_too_long ending_of.Failed e = cc
never_too_long ending_of.TooLong e = cc

failed : (ending : Ending) (now : Script) → IsEnding ending now → short_settled ending ≡ Some (Err Device) → HasFailed now ⊎ (IsTooLong now × (ending ≡ ending_of.TooLong))
failed ending_of.Open now h e = absurd cc
failed ending_of.Ended now h e = absurd cc
failed ending_of.Failed now h e = inl h
failed ending_of.TooLong now h e = inr (h, refl)

-- a reason that stays the same, or a device's that was the source's limit
why_cases : (why : Why) (ending : Ending) → ((why ≡ Read) × (ending ≡ ending_of.TooLong) × (why_of why ending ≡ InputTooLong)) ⊎ ((why_of why ending ≡ why) × (why ≡ Read → ending ≢ ending_of.TooLong))
why_cases Read ending_of.TooLong = inl (refl, refl, refl)
why_cases Read ending_of.Open = inr (refl, λ e is. cc)
why_cases Read ending_of.Ended = inr (refl, λ e is. cc)
why_cases Read ending_of.Failed = inr (refl, λ e is. cc)
why_cases _ ending = inr (refl, λ e. absurd cc)

-- ---- the read

module _ {V : Type 0} (spells : V → List ℕ → Type 0) (took : Why → List ℕ → Type 0) {start : Script} {name : GName} {first : Place} {same : GName} {now : Script} {place : Place} {kept : ℕ} {ending : Ending}
    (f : IsShortened start name first same now place kept ending) (cuts : (bytes : List ℕ) → took Read bytes → took InputTooLong bytes) where
  value_read : (v : V) → IsSettled place → ReadsValue spells (short_script start first start first 0 ending_of.Open) v (short_script start first now place kept ending) → ReadsLong first spells start v now
  value_read v settled r =
      let b = both f r.bytes r.takes in
      record { bytes = b.bytes; short = r.bytes; takes = b.takes; is_short = b.is_short; settled = b.settled settled; spelled = r.spelled }

  let_go : (v : V) → ReadsValue spells (short_script start first start first 0 ending_of.Open) v (short_script start first now place kept ending) → FailsLong first spells took start Memory now
  let_go v r =
      let b = both f r.bytes r.takes in
      record {
        bytes = b.bytes;
        short = r.bytes;
        takes = b.takes;
        is_short = b.is_short;
        reason = inr (refl, (v, r.spelled));
        format = λ e. absurd cc;
        cut = λ e. absurd cc;
        truncated = λ e. absurd cc;
        device = λ e. absurd cc;
        too_long = λ e. absurd cc;
      }

  fails : (why : Why) → FailsPiece spells took (short_script start first start first 0 ending_of.Open) why (short_script start first now place kept ending) → FailsLong first spells took start (why_of why ending) now
  fails why r =
      let b = both f r.bytes r.takes in
      let held : took why r.bytes = subst (took why) (sym (r.reason.joined ∙ ap (λ (x : List ℕ). x ++ r.reason.last) r.reason.begun)) r.reason.holds in
      elim (why_cases why ending) [
        | inl is ↦ subst (λ (w : Why). FailsLong first spells took start w now) (sym is.2) (record {
          bytes = b.bytes;
          short = r.bytes;
          takes = b.takes;
          is_short = b.is_short;
          reason = inl (cuts r.bytes (subst (λ (w : Why). took w r.bytes) is.0 held));
          format = λ e. absurd cc;
          cut = λ e. r.cut (subst (λ (w : Why). IsTrue (is_cut w)) (sym is.0) refl);
          truncated = λ e. absurd cc;
          device = λ e. absurd cc;
          too_long = λ e. subst (λ (n : Ending). IsEnding n now) is.1 f.ended;
        })
        | inr is ↦ subst (λ (w : Why). FailsLong first spells took start w now) (sym is.0) (record {
          bytes = b.bytes;
          short = r.bytes;
          takes = b.takes;
          is_short = b.is_short;
          reason = inl held;
          format = r.format;
          cut = r.cut;
          truncated = λ e. at_end ending now f.ended (r.truncated e).settled;
          device = λ e. elim (failed ending now f.ended (r.device e).settled) [ inl h ↦ h | inr h ↦ absurd (is.1 e h.1) ];
          too_long = λ e. absurd (never_too_long ending (r.too_long e).settled);
        })
      ]

  -- a read, and its result
  pub judged_read : (outcome result : Result V Why) → Judges outcome place ending result → ReadsPiece spells took (short_script start first start first 0 ending_of.Open) outcome (short_script start first now place kept ending)
      → ReadsAnyLength first spells took start result now
  judged_read (Ok v) (Ok w) j r = subst (λ (u : V). ReadsLong first spells start u now) (sym j.0) (value_read v j.1 r)
  judged_read (Ok v) (Err why) j r = subst (λ (w : Why). FailsLong first spells took start w now) (sym j) (let_go v r)
  judged_read (Err why) (Ok w) j r = absurd j
  judged_read (Err why) (Err then) j r = subst (λ (w : Why). FailsLong first spells took start w now) (sym j) (fails why r)
