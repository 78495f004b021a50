-- What is known of a refusal, by where the bytes went wrong.
use Rattle.std.proofs.Common.{◌≡◌, ◌≢◌, ◌⊎◌, inl, inr, ℕ, Bool, true, false, List, [], ◌++◌, Option, None, Some, IsTrue, cond, refl, sym, ap, subst, ◌∙◌}
use Rattle.std.specs.Option.{option_or}
use Rattle.std.proofs.lemmas.List.{append-nil}
use Rattle.oas_num.specs.declared.refusals.Why.{Why}
use Rattle.oas_num.specs.declared.refusals.Why.TheVariants.{Truncated, Read, InputTooLong, Write, Memory}
use Rattle.oas_num.specs.Reading.{is_format, is_cut, FailsBy}
use Rattle.oas_num.specs.Refusing.{decides, is_of_file, IsRefusedBy}
use Rattle.oas_num.specs.Script.{Script, Consumed, IsAtEnd, HasFailed, IsTooLong}
use Rattle.oas_num.proofs.ReadLemmas.{Consumed-then, Wants, NoneFits-after, NoneWithin-after}

-- ---- what a reason of the bytes isn't

false_not_true : ◌≡◌ {A = Bool} false true → ⊥
false_not_true e = cc

pub decided_not : (why other : Why) → IsTrue (decides why) → decides other ≡ false → why ≢ other
decided_not why other is not e = false_not_true (sym not ∙ ap decides (sym e) ∙ is)

decided_uncut : (why : Why) → IsTrue (decides why) → IsTrue (is_cut why) → ⊥
decided_uncut Truncated is cut = absurd cc
decided_uncut Read is cut = absurd cc
decided_uncut InputTooLong is cut = absurd cc
decided_uncut _ is cut = absurd cc

pub decides_format : (why : Why) → IsTrue (decides why) → IsTrue (is_format why)
decides_format Truncated is = is
decides_format Read is = is
decides_format InputTooLong is = is
decides_format Memory is = is
decides_format Write is = refl
decides_format _ is = is

pub format_or_end : (why : Why) → IsTrue (is_of_file why) → IsTrue (is_format why) ⊎ (why ≡ Truncated)
format_or_end Truncated is = inr refl
format_or_end Read is = absurd cc
format_or_end InputTooLong is = absurd cc
format_or_end Write is = absurd cc
format_or_end Memory is = absurd cc
format_or_end _ is = inl refl

-- the end of the input cuts it off
pub ended_cut : (why : Why) → why ≡ Truncated → IsTrue (is_cut why)
ended_cut why e = subst (λ (w : Why). IsTrue (is_cut w)) (sym e) refl

-- out of memory isn't about the file
pub memory_not : (why : Why) → why ≡ Memory → IsTrue (is_of_file why) → ⊥
memory_not why e is = let f : IsTrue (is_of_file Memory) = subst (λ (w : Why). IsTrue (is_of_file w)) e is in absurd cc

pub not_writing : (why : Why) (may : Why → List ℕ → Type 0) (last : List ℕ) → (may Write last → ⊥) → may why last → why ≢ Write
not_writing why may last not h e = not (subst (λ (w : Why). may w last) e h)

-- ---- a first reason

-- it is such, if there is one
pub record Reasons {W : Type 0} (P : W → Type 0) (reason : Option W) : Type 0 where
  pub such : (why : W) → reason ≡ Some why → P why

module _ {W : Type 0} {P : W → Type 0} where
  pub none_in : Reasons P None
  none_in = record { such = λ why e. absurd cc }

  pub some_in : (why : W) → P why → Reasons P (Some why)
  some_in why is = record { such = λ other e. subst P (same why other e) is } where
    same : (why other : W) → ◌≡◌ {A = Option W} (Some why) (Some other) → why ≡ other
    same why other e = cc

  pub if_in : (test : Bool) (why : W) (others : Option W) → P why → Reasons P others → Reasons P (cond test (Some why) others)
  if_in true why others is all = some_in why is
  if_in false why others is all = all

  pub or_in : (one other : Option W) → Reasons P one → Reasons P other → Reasons P (option_or one other)
  or_in None other p q = q
  or_in (Some why) other p q = p

-- ---- what can't be read

-- the source stopped, by the device or at its limit
abbrev pub StoppedBy : Why → Script → Type 0
StoppedBy Read new = HasFailed new
StoppedBy InputTooLong new = IsTooLong new
StoppedBy _ new = ⊥

-- which is no reason of the file
pub stopped_not : (why : Why) (new : Script) → StoppedBy why new → IsTrue (is_of_file why) → ⊥
stopped_not Read new stop is = cc
stopped_not InputTooLong new stop is = cc
stopped_not _ new stop is = stop

-- where a read fails there is no spelling
pub none_is_spelled : {V : Type 0} {piece : Bool} {spells : V → List ℕ → Type 0} {may : Why → List ℕ → Type 0} {old new : Script} {why : Why} (f : FailsBy piece spells may old why new) →
    IsTrue (is_of_file why)
    → (more : List ℕ) → (IsAtEnd new → more ≡ []) → (v : V) (front rest : List ℕ) → spells v front → f.bytes ++ more ≢ front ++ rest
none_is_spelled {why = why} f is more ended v front rest s e =
    elim (format_or_end why is) [
      | inl format ↦ (f.format format).none v front rest more s (sym e)
      | inr end ↦ (f.cut (ended_cut why end)).none v front rest s (sym e ∙ ap (λ (c : List ℕ). f.bytes ++ c) (ended (f.truncated end)) ∙ append-nil f.bytes)
    ]

module _ (Accepted : List ℕ → Type 0) where
  -- it is refused out of memory, or so that no accepted input goes on like this
  pub data Judges (bytes : List ℕ) (why : Why) : Type 0 where
    ForMemory : why ≡ Memory → Judges bytes why
    Decided : IsTrue (decides why) → ((more : List ℕ) → Accepted (bytes ++ more) → ⊥) → Judges bytes why

module _ {Accepted : List ℕ → Type 0} where
  -- what fails where each accepted input goes on with it refuses the input
  pub read_refused : {V W : Type 0} {piece : Bool} {spells : V → List ℕ → Type 0} {next : W → List ℕ → Type 0} {may : Why → List ℕ → Type 0} {old mid new : Script} {why : Why}
      → ((b : List ℕ) → Accepted b → (v : V) × spells v b) → (front : List ℕ) → Wants spells front next → Consumed old front mid → FailsBy piece next may mid why new → why ≢ Write → IsRefusedBy Accepted old why new
  read_refused {spells = spells} {next = next} {old = old} {mid = mid} {new = new} {why = why} spelled front wants takes f reading = record {
    bytes = front ++ f.bytes;
    takes = Consumed-then old mid new front f.bytes takes f.takes;
    decided = λ is more a.
        let s = spelled ((front ++ f.bytes) ++ more) a in
        (NoneFits-after spells next front f.bytes wants (f.format (decides_format why is))).none s.0 ((front ++ f.bytes) ++ more) [] more s.1 (append-nil ((front ++ f.bytes) ++ more));
    cut = λ is whole rest e a. absurd (not is whole rest e a);
    truncated = λ is. (not (ended_cut why is) (front ++ f.bytes) [] (append-nil (front ++ f.bytes)), f.truncated is);
    device = f.device;
    too_long = f.too_long;
    reading = reading;
  } where
    not : IsTrue (is_cut why) → (whole rest : List ℕ) → whole ++ rest ≡ front ++ f.bytes → Accepted whole → ⊥
    not is whole rest e a = let s = spelled whole a in (NoneWithin-after spells next front f.bytes wants (f.cut is)).none s.0 whole rest s.1 e

  -- ---- what was read, and isn't accepted

  module _ {bytes : List ℕ} {why : Why} where
    judged_not : (other : Why) → other ≢ Memory → decides other ≡ false → Judges Accepted bytes why → why ≢ other
    judged_not other apart not (ForMemory e) is = apart (sym is ∙ e)
    judged_not other apart not (Decided d none) is = decided_not why other d not is

    judged_uncut : Judges Accepted bytes why → IsTrue (is_cut why) → ⊥
    judged_uncut (ForMemory e) cut = let c : IsTrue (is_cut Memory) = subst (λ (w : Why). IsTrue (is_cut w)) e cut in cc
    judged_uncut (Decided d none) cut = decided_uncut why d cut

    judged_decided : Judges Accepted bytes why → IsTrue (decides why) → (more : List ℕ) → Accepted (bytes ++ more) → ⊥
    judged_decided (ForMemory e) is = let d : IsTrue (decides Memory) = subst (λ (w : Why). IsTrue (decides w)) e is in absurd cc
    judged_decided (Decided d none) is = none

  pub judged_refused : {old new : Script} {bytes : List ℕ} {why : Why} → Consumed old bytes new → Judges Accepted bytes why → IsRefusedBy Accepted old why new
  judged_refused {bytes = bytes} takes j = record {
    bytes = bytes;
    takes = takes;
    decided = judged_decided j;
    cut = λ cut. absurd (judged_uncut j cut);
    truncated = λ is. absurd (judged_not Truncated (λ e. cc) refl j is);
    device = λ is. absurd (judged_not Read (λ e. cc) refl j is);
    too_long = λ is. absurd (judged_not InputTooLong (λ e. cc) refl j is);
    reading = judged_not Write (λ e. cc) refl j;
  }

  -- ---- where the source stopped

  pub stopped_refused : {old new : Script} (why : Why) (bytes : List ℕ) → Consumed old bytes new → StoppedBy why new → ((front rest : List ℕ) → front ++ rest ≡ bytes → Accepted front → rest ≡ []) → IsRefusedBy Accepted old why new
  stopped_refused Read bytes takes stop cut = record {
    bytes = bytes;
    takes = takes;
    decided = λ d. absurd cc;
    cut = λ _. cut;
    truncated = λ e. absurd cc;
    device = λ _. stop;
    too_long = λ e. absurd cc;
    reading = λ e. cc;
  }
  stopped_refused InputTooLong bytes takes stop cut = record {
    bytes = bytes;
    takes = takes;
    decided = λ d. absurd cc;
    cut = λ _. cut;
    truncated = λ e. absurd cc;
    device = λ e. absurd cc;
    too_long = λ _. stop;
    reading = λ e. cc;
  }
  stopped_refused _ bytes takes stop cut = absurd stop
