-- What is spelled with integers of at most ten bytes is given unchanged.
use Rattle.std.proofs.Common.{◌≡◌, ℕ, ◌+◌, ◌<◌, ◌≤◌, Bool, true, false, List, [], ◌∷◌, ◌++◌, length, Option, Some, None, ◌⊎◌, inl, inr, refl, sym, ap, subst, ◌∙◌, arith}
use Rattle.std.proofs.lemmas.Bool.{cases_lt, lt-ltb, le-ltb}
use Rattle.std.proofs.lemmas.List.{length-append}
use Rattle.oas_num.specs.declared.refusals.Why.{Why}
use Rattle.oas_num.specs.declared.refusals.Why.TheVariants.{Truncated, IntegerRange, Read, InputTooLong}
use Rattle.oas_num.specs.Grammar.{IsPair, IsSuch, IsImage, IsThere, IsEach, IsCount}
use Rattle.oas_num.specs.Combinators.{IsEither, IsExactly}
use Rattle.oas_num.specs.Integers.{IsOpen, IsClosed, IsUnsigned}
use Rattle.oas_num.specs.Pieces.{PairTook, ThereTook, CountTook, SuchTook, ListTook}
use Rattle.oas_num.specs.Reading.{IntegerMay}
use Rattle.oas_long_integers.specs.declared.places.Place.{Place}
use Rattle.oas_long_integers.specs.declared.places.Place.TheVariants.{Groups}
use Rattle.oas_long_integers.specs.Places.{given_by, moved, put, shortened, after}
use Rattle.oas_long_integers.specs.Laws.PlaceLaws.{shortened-append, after-append}

-- in no integer
abbrev pub start : Place
start = Groups 0

-- all is given unchanged, and no integer goes on
abbrev pub IsWhole : List ℕ → Type 0
IsWhole bytes = (shortened start bytes ≡ bytes) × (after start bytes ≡ start)

-- all is given unchanged, or they end with an integer that is refused
abbrev pub IsPart : Why → List ℕ → Type 0
IsPart why bytes = (shortened start bytes ≡ bytes) ⊎ ((why ≡ IntegerRange) × (10 ≤ length bytes))

pub record Tame {V : Type 0} (any : V → List ℕ → Type 0) (took : Why → List ℕ → Type 0) : Type 0 where
  pub whole : (v : V) (bytes : List ℕ) → any v bytes → IsWhole bytes
  pub part : (why : Why) (bytes : List ℕ) → took why bytes → IsPart why bytes
  -- where the device fails, the input may be too long as well
  pub cut : (bytes : List ℕ) → took Read bytes → took InputTooLong bytes

pub whole_none : IsWhole []
whole_none = (refl, refl)

kept_then : (a b : List ℕ) → IsWhole a → shortened start b ≡ b → shortened start (a ++ b) ≡ a ++ b
kept_then a b p e = shortened-append start a b ∙ (λ i. p.0 i ++ shortened (p.1 i) b) ∙ ap (λ (c : List ℕ). a ++ c) e

pub whole_then : (a b : List ℕ) → IsWhole a → IsWhole b → IsWhole (a ++ b)
whole_then a b p q = (kept_then a b p q.0, after-append start a b ∙ ap (λ (place : Place). after place b) p.1 ∙ q.1)

pub part_then : (why : Why) (a b : List ℕ) → IsWhole a → IsPart why b → IsPart why (a ++ b)
part_then why a b p (inl e) = inl (kept_then a b p e)
part_then why a b p (inr h) = inr (h.0, omega (arith, length-append a b, h.1))

-- ---- what is made of parts

pub tame_pair : {V W : Type 0} {A : V → List ℕ → Type 0} {B : V → W → List ℕ → Type 0} {first : Why → List ℕ → Type 0} {second : V → Why → List ℕ → Type 0}
    → Tame A first → ((v : V) → Tame (B v) (second v)) → Tame (IsPair A B) (PairTook A first second)
tame_pair f g = record {
  whole = λ v bytes p. subst IsWhole (sym p.joined) (whole_then p.front p.back (f.whole v.0 p.front p.first) ((g v.0).whole v.1 p.back p.second));
  part = λ why bytes h. elim h [ inl h ↦ f.part why bytes h | inr b ↦ subst (IsPart why) (sym b.joined) (part_then why b.front b.last (f.whole b.value b.front b.spelled) ((g b.value).part why b.last b.holds)) ];
  cut = λ bytes h. elim h [ inl h ↦ inl (f.cut bytes h) | inr b ↦ inr (record { value = b.value; front = b.front; last = b.last; spelled = b.spelled; holds = (g b.value).cut b.last b.holds; joined = b.joined }) ];
}

there_whole : {V : Type 0} {A : V → List ℕ → Type 0} (here : Bool) (v : Option V) (bytes : List ℕ) → ((w : V) (b : List ℕ) → A w b → IsWhole b) → IsThere here A v bytes → IsWhole bytes
there_whole true (Some w) bytes f p = f w bytes p
there_whole true None bytes f p = absurd p
there_whole false (Some w) bytes f p = absurd p
there_whole false None bytes f p = subst IsWhole (sym p) whole_none

pub tame_there : {V : Type 0} {A : V → List ℕ → Type 0} {took : Why → List ℕ → Type 0} (here : Bool) → Tame A took → Tame (IsThere here A) (ThereTook here took)
tame_there true f = record { whole = λ v bytes p. there_whole true v bytes f.whole p; part = f.part; cut = f.cut }
tame_there false f = record { whole = λ v bytes p. there_whole false v bytes f.whole p; part = λ why bytes h. absurd h; cut = λ bytes h. h }

pub tame_either : {V : Type 0} {A B : V → List ℕ → Type 0} {f g : Why → List ℕ → Type 0} (test : Bool) → Tame A f → Tame B g → Tame (IsEither test A B) (IsEither test f g)
tame_either true p q = record { whole = p.whole; part = p.part; cut = p.cut }
tame_either false p q = record { whole = q.whole; part = q.part; cut = q.cut }

pub tame_image : {U V : Type 0} {A : U → List ℕ → Type 0} {took : Why → List ℕ → Type 0} (f : U → V) → Tame A took → Tame (IsImage f A) took
tame_image f t = record { whole = λ v bytes p. t.whole p.from bytes p.spelled; part = t.part; cut = t.cut }

-- a value that was read whole is refused
pub tame_refused : {V : Type 0} {A : V → List ℕ → Type 0} {took : Why → List ℕ → Type 0} {refuses : V → Why → Type 0} → ((v : V) → refuses v Read → ⊥) → Tame A took → Tame A (SuchTook A took refuses)
tame_refused other t = record {
  whole = t.whole;
  part = λ why bytes h. elim h [ inl h ↦ t.part why bytes h | inr h ↦ inl (t.whole h.0 bytes h.1).0 ];
  cut = λ bytes h. elim h [ inl h ↦ inl (t.cut bytes h) | inr h ↦ absurd (other h.0 h.2) ];
}

pub tame_such : {V : Type 0} {A : V → List ℕ → Type 0} {took : Why → List ℕ → Type 0} {refuses : V → Why → Type 0} (P : V → Type 0) → ((v : V) → refuses v Read → ⊥) → Tame A took → Tame (IsSuch P A) (SuchTook A took refuses)
tame_such P other t =
    let r = tame_refused other t in
    record { whole = λ v bytes p. t.whole v bytes p.spelled; part = r.part; cut = r.cut }

pub each_whole : {V : Type 0} {A : V → List ℕ → Type 0} (f : (v : V) (b : List ℕ) → A v b → IsWhole b) (vs : List V) (bytes : List ℕ) → IsEach A vs bytes → IsWhole bytes
each_whole f [] bytes p = subst IsWhole (sym p) whole_none
each_whole f (v ∷ vs) bytes p = subst IsWhole (sym p.4) (whole_then p.0 p.1 (f v p.0 p.2) (each_whole f vs p.1 p.3))

pub tame_count : {V : Type 0} {A : V → List ℕ → Type 0} {took : Why → List ℕ → Type 0} (count : ℕ) → Tame A took → Tame (IsCount A count) (CountTook A count took)
tame_count count t = record {
  whole = λ vs bytes p. each_whole t.whole vs bytes p.each;
  part = λ why bytes b. subst (IsPart why) (sym b.joined) (part_then why b.front b.last (each_whole t.whole b.value b.front b.spelled) (t.part why b.last b.holds.1));
  cut = λ bytes b. record { value = b.value; front = b.front; last = b.last; spelled = b.spelled; holds = (b.holds.0, t.cut b.last b.holds.1); joined = b.joined };
}

pub tame_list : {V : Type 0} {A : V → List ℕ → Type 0} {took : Why → List ℕ → Type 0} (count : ℕ) → Tame A took → Tame (IsCount A count) (ListTook A count took)
tame_list count t = tame_count count (tame_refused (λ v e. cc) t)

pub tame_nothing : Tame (IsExactly []) (λ why bytes. ⊥)
tame_nothing = record { whole = λ v bytes p. subst IsWhole (sym p) whole_none; part = λ why bytes h. absurd h; cut = λ bytes h. h }

-- ---- integers

closed_long : (bytes : List ℕ) → IsClosed bytes → 1 ≤ length bytes
closed_long [] h = absurd h
closed_long (b ∷ bs) h = omega arith

-- one group of several
group_given : (k b : ℕ) → 128 ≤ b → k < 9 → (given_by (Groups k) b ≡ Some b) × (moved (Groups k) b ≡ Groups (k + 1))
group_given k b large few = rw (le-ltb b 128 large, lt-ltb k 9 few) (refl, refl)

last_given : (k b : ℕ) → b < 128 → (given_by (Groups k) b ≡ Some b) × (moved (Groups k) b ≡ start)
last_given k b small = rw (lt-ltb b 128 small) (refl, refl)

closed_kept : (k : ℕ) (bytes : List ℕ) → IsClosed bytes → k + length bytes ≤ 10 → (shortened (Groups k) bytes ≡ bytes) × (after (Groups k) bytes ≡ start)
closed_kept k [] h few = absurd h
closed_kept k (b ∷ bs) (inl last) few =
    let g = last_given k b last.0 in (
      (λ i. put (g.0 i) (shortened (g.1 i) bs)) ∙ ap (λ (c : List ℕ). b ∷ shortened start c) last.1 ∙ ap (λ (c : List ℕ). b ∷ c) (sym last.1),
      ap (λ (place : Place). after place bs) g.1 ∙ ap (after start) last.1,
    )
closed_kept k (b ∷ bs) (inr more) few =
    let long = closed_long bs more.2 in
    let g = group_given k b more.0 (omega (arith, few, long)) in
    let r = closed_kept (k + 1) bs more.2 (omega (arith, few)) in
    ((λ i. put (g.0 i) (shortened (g.1 i) bs)) ∙ ap (λ (c : List ℕ). b ∷ c) r.0, ap (λ (place : Place). after place bs) g.1 ∙ r.1)

open_kept : (k : ℕ) (bytes : List ℕ) → IsOpen bytes → k + length bytes ≤ 9 → (shortened (Groups k) bytes ≡ bytes) × (after (Groups k) bytes ≡ Groups (k + length bytes))
open_kept k [] h few = (refl, ap Groups (omega arith))
open_kept k (b ∷ bs) h few =
    let g = group_given k b h.0 (omega (arith, few)) in
    let r = open_kept (k + 1) bs h.2 (omega (arith, few)) in
    let e : k + 1 + length bs ≡ k + length (b ∷ bs) = omega arith in
    ((λ i. put (g.0 i) (shortened (g.1 i) bs)) ∙ ap (λ (c : List ℕ). b ∷ c) r.0, ap (λ (place : Place). after place bs) g.1 ∙ r.1 ∙ ap Groups e)

-- any byte that is in no integer is given
pub one_kept : (b : ℕ) → shortened start (b ∷ []) ≡ b ∷ []
one_kept b = elim (cases_lt b 128) [
  | inl small ↦ ap (λ (g : Option ℕ). put g []) (last_given 0 b small).0
  | inr large ↦ ap (λ (g : Option ℕ). put g []) (group_given 0 b large (omega arith)).0
]

pub small_whole : (b : ℕ) → b < 128 → IsWhole (b ∷ [])
small_whole b small = let g = last_given 0 b small in (ap (λ (c : Option ℕ). put c []) g.0, g.1)

few_part : (why : Why) (bytes : List ℕ) → IsOpen bytes → length bytes < 10 → IsPart why bytes
few_part why bytes o few = inl (open_kept 0 bytes o (omega (arith, few))).0

range_part : (front : List ℕ) (tenth : ℕ) → IsOpen front → length front ≡ 9 → IsPart IntegerRange (front ++ tenth ∷ [])
range_part front tenth o nine = elim (cases_lt tenth 128) [
  | inl small ↦
      (let k = open_kept 0 front o (omega (arith, nine)) in
      let n : 0 + length front ≡ 9 = omega (arith, nine) in
      let g = last_given 9 tenth small in
      inl (shortened-append start front (tenth ∷ []) ∙ (λ i. k.0 i ++ shortened (k.1 i) (tenth ∷ [])) ∙ ap (λ (m : ℕ). front ++ shortened (Groups m) (tenth ∷ [])) n ∙ ap (λ (c : Option ℕ). front ++ put c []) g.0))
  | inr large ↦ inr (refl, omega (arith, length-append front (tenth ∷ []), nine))
]

integer_part : (why : Why) (bytes : List ℕ) → IntegerMay why bytes → IsPart why bytes
integer_part Truncated bytes h = few_part Truncated bytes h.open_prefix h.few
integer_part Read bytes h = few_part Read bytes h.open_prefix h.few
integer_part InputTooLong bytes h = few_part InputTooLong bytes h.open_prefix h.few
integer_part IntegerRange bytes h = subst (IsPart IntegerRange) (sym h.joined) (range_part h.front h.tenth h.open_prefix h.nine)
integer_part _ bytes h = absurd h

pub tame_number : Tame IsUnsigned IntegerMay
tame_number = record { whole = λ v bytes p. closed_kept 0 bytes p.closed (let short = p.short in omega (arith, short)); part = integer_part; cut = λ bytes h. h }
