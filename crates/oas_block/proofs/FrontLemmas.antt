-- What a source of another source's next bytes gives is given by that source.
use Rattle.std.proofs.Common.{◌≡◌, ℕ, zero, suc, ◌+◌, ◌-◌, ◌<◌, ◌≤◌, true, false, Bool, List, [], ◌∷◌, ◌++◌, length, take, Option, Some, None, Ok, Err, refl, sym, ap, subst, ◌∙◌, arith}
use Rattle.std.proofs.lemmas.List.{length-append}
use Rattle.std.proofs.Math.Seq.{take-append-add}
use base.Fml.{GName}
use Rattle.oas_num.specs.SourceFault.{SourceFault}
use Rattle.oas_num.specs.SourceFault.TheVariants.{Device, TooLong}
use Rattle.oas_num.specs.Script.{Script, Rest, Gave, since, Consumed, NoneLeft, IsAtEnd, HasFailed, IsTooLong, Next}
use Rattle.oas_num.proofs.ReadLemmas.{since_is, since_then, consumed_since}
use Rattle.oas_block.specs.Fronts.{goes_on_in, front_rest, prefix_script, IsFront}

-- ---- one more call

goes_on_same : (left : ℕ) (xs ys : List ℕ) (goes_on : Bool) → length xs ≤ left → goes_on_in left (xs ++ ys) goes_on ≡ goes_on_in (left - length xs) ys goes_on
goes_on_same left [] ys goes_on le = let e : left ≡ left - 0 = omega arith in ap (λ (n : ℕ). goes_on_in n ys goes_on) e
goes_on_same zero (x ∷ xs) ys goes_on le = absurd (omega arith)
goes_on_same (suc left) (x ∷ xs) ys goes_on le =
    let e : left - length xs ≡ suc left - length (x ∷ xs) = omega arith in
    goes_on_same left xs ys goes_on (omega arith) ∙ ap (λ (n : ℕ). goes_on_in n ys goes_on) e

front_gave : (s t : Option Rest) (left : ℕ) (xs : List ℕ) → length xs ≤ left → Gave s xs t → Gave (front_rest left s) xs (front_rest (left - length xs) t)
front_gave None t left xs le g = tt
front_gave (Some s) None left xs le g = absurd g
front_gave (Some s) (Some t) left xs le g =
    let e : length xs + (left - length xs) ≡ left = omega arith in (
      ap (λ (x : List ℕ). take left x) g.0 ∙ ap (λ (n : ℕ). take n (xs ++ t.bytes)) (sym e) ∙ take-append-add xs t.bytes (left - length xs),
      ap (λ (b : Bool). goes_on_in (left - length xs) t.bytes b) g.1 ∙ sym (goes_on_same left xs t.bytes s.goes_on le)
          ∙ ap (λ (x : List ℕ). goes_on_in left x s.goes_on) (sym g.0),
    )

pub front_takes : {s t : Script} (left : ℕ) (xs : List ℕ) → length xs ≤ left → Consumed s xs t → Consumed (prefix_script s left) xs (prefix_script t (left - length xs))
front_takes {s} {t} left xs le k = record { history = k.history; given = k.given; limit = k.limit; reliable = k.reliable; failures = k.failures; rest = front_gave s.rest t.rest left xs le k.rest }

-- a byte was given
front_next : {s t : Script} (left byte : ℕ) → 0 < left → Next s (Ok (Some byte)) t → Next (prefix_script s left) (Ok (Some byte)) (prefix_script t (left - 1))
front_next {s} {t} zero byte lt n = absurd (omega arith)
front_next {s} {t} (suc left) byte lt n = record {
  again = n.again;
  within = n.within;
  answers = (n.answers.0, front_takes (suc left) (byte ∷ []) (omega arith) n.answers.1);
}

front_goes_on : {start : Script} {name : GName} {count : ℕ} {same : GName} {s t : Script} {left byte : ℕ} → IsFront start name count same s left
    → 0 < left → Next s (Ok (Some byte)) t → IsFront start name count same t (left - 1)
front_goes_on {start} {name} {count} {same} {s} {t} {left} {byte} f lt n =
    let k = n.answers.1 in
    record {
      same_source = f.same_source;
      takes = consumed_since start f.takes k;
      counted = omega (arith, f.counted, ap length (since_then start f.takes k), length-append (since start s) (byte ∷ []));
      within = λ z. n.within;
    }

-- the same, where that byte is returned
pub given_front : {start : Script} {name : GName} {count : ℕ} {same : GName} {s t : Script} {left : ℕ} (byte : ℕ) (answer : Option ℕ) → answer ≡ Some byte
    → IsFront start name count same s left → 0 < left → Next s (Ok answer) t → IsFront start name count same t (left - 1)
given_front {s = s} {t = t} byte answer e h lt n = front_goes_on h lt (subst (λ (a : Option ℕ). Next s (Ok a) t) e n)

pub given_next : {s t : Script} (left byte : ℕ) (answer : Option ℕ) → answer ≡ Some byte → 0 < left → Next s (Ok answer) t
    → Next (prefix_script s left) (Ok (Some byte)) (prefix_script t (left - 1))
given_next {s} {t} left byte answer e lt n = front_next left byte lt (subst (λ (a : Option ℕ). Next s (Ok a) t) e n)

-- ---- what was given, for the source below

module _ {start : Script} {name : GName} {count : ℕ} {same : GName} {now : Script} {left : ℕ} (f : IsFront start name count same now left) where
  front_since : {bytes : List ℕ} → Consumed (prefix_script start count) bytes (prefix_script now left) → since start now ≡ bytes
  front_since k = since_is k

  -- how many bytes were given
  pub front_count : {bytes : List ℕ} → Consumed (prefix_script start count) bytes (prefix_script now left) → length bytes + left ≡ count
  front_count k = ap (λ (x : List ℕ). length x + left) (sym (front_since k)) ∙ f.counted

  pub front_back : {bytes : List ℕ} → Consumed (prefix_script start count) bytes (prefix_script now left) → Consumed start bytes now
  front_back k = subst (λ (x : List ℕ). Consumed start x now) (front_since k) f.takes

  -- bytes were given
  pub front_some : (bytes : List ℕ) × Consumed start bytes now × (length bytes + left ≡ count)
  front_some = (since start now, f.takes, f.counted)

-- ---- how it ended

none_back : (r : Option Rest) (left : ℕ) (goes_on : Bool) → 0 < left → NoneLeft (front_rest left r) goes_on → NoneLeft r goes_on
none_back None left goes_on lt h = tt
none_back (Some r) zero goes_on lt h = absurd (omega arith)
none_back (Some r) (suc left) goes_on lt h = by_bytes r.bytes refl where
  by_bytes : (xs : List ℕ) → r.bytes ≡ xs → NoneLeft (Some r) goes_on
  by_bytes [] e = (e, sym (ap (λ (x : List ℕ). goes_on_in (suc left) x r.goes_on) e) ∙ h.1)
  by_bytes (x ∷ xs) e = let c : x ∷ take left xs ≡ [] = sym (ap (λ (y : List ℕ). take (suc left) y) e) ∙ h.0 in absurd cc

settled_back : (s : Script) (left : ℕ) → 0 < left → (prefix_script s left).settled ≡ s.settled
settled_back s zero lt = absurd (omega arith)
settled_back s (suc left) lt = refl

pub ended_back : (s : Script) (left : ℕ) → 0 < left → IsAtEnd (prefix_script s left) → IsAtEnd s
ended_back s left lt h = record { settled = sym (settled_back s left lt) ∙ h.settled; none = none_back s.rest left false lt h.none }

-- a device that failed did so before the last byte
unended : (s : Script) (left : ℕ) (fault : SourceFault) → (prefix_script s left).settled ≡ Some (Err fault) → 0 < left
unended s zero fault e = absurd cc
unended s (suc left) fault e = omega arith

pub failed_back : (s : Script) (left : ℕ) → HasFailed (prefix_script s left) → HasFailed s × (0 < left)
failed_back s left h =
    let lt = unended s left Device h.settled in
    (record { settled = sym (settled_back s left lt) ∙ h.settled; unreliable = h.unreliable; failed = h.failed }, lt)

pub too_long_back : (s : Script) (left : ℕ) → IsTooLong (prefix_script s left) → IsTooLong s × (0 < left)
too_long_back s left h =
    let lt = unended s left TooLong h.settled in
    (record { settled = sym (settled_back s left lt) ∙ h.settled; all = h.all; none = none_back s.rest left true lt h.none }, lt)
