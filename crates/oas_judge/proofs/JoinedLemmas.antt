-- A source that gives what was kept once more, and then goes on.
use Rattle.std.proofs.Common.{◌≡◌, ℕ, ◌+◌, ◌-◌, ◌<◌, ◌≤◌, Bool, List, [], ◌∷◌, ◌++◌, length, take, drop, Option, Some, None, refl, sym, ap, subst, ◌∙◌, append_assoc, arith}
use Rattle.std.proofs.lemmas.List.{length-append, length-drop, take-append-drop, drop-drop}
use Rattle.std.proofs.Math.Seq.{take-append_seam}
use Rattle.std.specs.Prelude.{IfSome}
use Rattle.oas_num.specs.Script.{Script, Rest, Gave, Consumed}
use Rattle.oas_judge.specs.Attempts.{GivesAgain}
use Rattle.oas_judge.specs.Sources.{with_left, joined_script, limit_with, hand_of}

-- what comes before the last of them
pub before : (all front last : List ℕ) → all ≡ front ++ last → take (length all - length last) all ≡ front
before all front last is =
    let there : length (front ++ last) - length last ≡ length front = omega (arith, length-append front last) in
    subst (λ (l : List ℕ). take (length l - length last) l ≡ front) (sym is) (ap (λ (n : ℕ). take n (front ++ last)) there ∙ take-append_seam front last)

gives_rest : (xs ys : List ℕ) (rest : Option Rest) → Gave (with_left (xs ++ ys) rest) xs (with_left ys rest)
gives_rest xs ys None = tt
gives_rest xs ys (Some rest) = (append_assoc xs ys rest.bytes, refl)

-- it gives the first bytes of what is left
gives_left : (now : Script) (front xs ys : List ℕ) (asked : Bool) (limit : ℕ) → now.history ≡ front ++ (xs ++ ys) → length (xs ++ ys) ≤ now.given →
    Consumed (joined_script now (xs ++ ys) asked limit) xs (joined_script now ys asked limit)
gives_left now front xs ys asked limit is few = record {
  history = before now.history (front ++ xs) ys (is ∙ sym (append_assoc front xs ys)) ∙ sym (ap (λ (l : List ℕ). l ++ xs) (before now.history front (xs ++ ys) is));
  given = omega (arith, few, length-append xs ys);
  limit = refl;
  reliable = refl;
  failures = omega arith;
  rest = gives_rest xs ys now.rest;
}

-- where some are left, these are at hand
hand_left : (left source : List ℕ) → 0 < length left → hand_of left source ≡ left
hand_left [] source some = absurd (omega (arith, some))
hand_left (x ∷ xs) source some = refl

pub skips_left : (start now : Script) (kept source : List ℕ) (at count : ℕ) (asked : Bool) (limit : ℕ) → Consumed start kept now → at < length kept →
    Consumed (joined_script now (drop at kept) asked limit) (take count (hand_of (drop at kept) source)) (joined_script now (drop (at + count) kept) asked limit)
skips_left start now kept source at count asked limit takes some =
    let left = drop at kept in
    let there : take count left ++ drop count left ≡ left = take-append-drop count left in
    let front = start.history ++ take at kept in
    let history : now.history ≡ front ++ left =
    takes.history ∙ ap (λ (l : List ℕ). start.history ++ l) (sym (take-append-drop at kept)) ∙ sym (append_assoc start.history (take at kept) left) in
    let few : length left ≤ now.given = omega (arith, length-drop at kept, takes.given) in
    let gives = gives_left now front (take count left) (drop count left) asked limit (history ∙ ap (λ (l : List ℕ). front ++ l) (sym there)) (subst (λ (l : List ℕ). length l ≤ now.given) (sym there) few) in
    let hand : hand_of left source ≡ left = hand_left left source (omega (arith, length-drop at kept, some)) in
    rw (hand, ← drop-drop count at kept) (subst (λ (l : List ℕ). Consumed (joined_script now l asked limit) (take count left) (joined_script now (drop count left) asked limit)) there gives)

-- ---- it gives all again

gave_rest : (kept : List ℕ) (old new : Option Rest) → Gave old kept new → IfSome old (λ rest. with_left kept new ≡ Some rest)
gave_rest kept None new gave = tt
gave_rest kept (Some old) None gave = absurd gave
gave_rest kept (Some old) (Some new) gave = (λ i. Some (record { bytes = sym gave.0 i; goes_on = gave.1 i }))

pub gives_again : (start now : Script) (kept : List ℕ) (asked : Bool) → Consumed start kept now → GivesAgain start (joined_script now kept asked (limit_with start kept))
gives_again start now kept asked takes = record {
  history = before now.history start.history kept takes.history;
  given = omega (arith, takes.given);
  limit = omega arith;
  reliable = takes.reliable;
  rest = gave_rest kept start.rest now.rest takes.rest;
}
