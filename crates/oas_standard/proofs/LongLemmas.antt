-- The loop over the bytes of a number in any number of bytes.
use Rattle.std.proofs.Common.{◌≡◌, true, ℕ, ◌+◌, ◌*◌, ◌%◌, ◌^◌, ◌<◌, ◌≤◌, suc, List, [], ◌∷◌, ◌++◌, length, inl, inr, refl, ◌∙◌, append_assoc, arith}
use Rattle.std.proofs.lemmas.List.{append-nil}
use Rattle.std.proofs.Math.Nat.{pow-suc, pow-le-pow_right, mul_comm}
use Rattle.std.proofs.lemmas.Nat.{mul-le}
use Rattle.oas_num.specs.declared.refusals.Why.{Why}
use Rattle.oas_num.specs.declared.refusals.Why.TheVariants.{Truncated, IntegerRange, Read, InputTooLong}
use Rattle.oas_num.specs.Begun.{Decides}
use Rattle.oas_num.specs.Grammar.{IsByte}
use Rattle.oas_num.specs.Integers.{IsOpen, IsClosed, value_of}
use Rattle.oas_num.specs.Laws.IntegerLaws.{open_prefix}
use Rattle.oas_num.specs.Reading.{ReadsValue, FailsPiece, ByteMay}
use Rattle.oas_num.specs.Script.{Script, Consumed}
use Rattle.oas_num.proofs.ReadLemmas.{Consumed-none, Consumed-then, Wants, NoneFits-after, NoneWithin-after}
use Rattle.oas_standard.specs.Long.{IsLong, LongMay}

-- ---- groups

value_of-append : (front q : List ℕ) → value_of (front ++ q) ≡ value_of front + value_of q * 128 ^ length front
value_of-append [] q = omega arith
value_of-append (c ∷ front) q =
    let e = value_of-append front q in
    let p : 128 ^ suc (length front) ≡ 128 ^ length front * 128 = pow-suc 128 (length front) in
    rw (e, p) (omega arith)

value_of-push : (front : List ℕ) (b : ℕ) → value_of (front ++ b ∷ []) ≡ value_of front + b % 128 * 128 ^ length front
value_of-push front b = value_of-append front (b ∷ []) ∙ omega arith

IsOpen-push : (front : List ℕ) (b : ℕ) → IsOpen front → 128 ≤ b → b < 256 → IsOpen (front ++ b ∷ [])
IsOpen-push [] b o le lt = (le, lt, tt)
IsOpen-push (c ∷ front) b o le lt = (o.0, o.1, IsOpen-push front b o.2 le lt)

IsClosed-push : (front : List ℕ) (b : ℕ) → IsOpen front → b < 128 → IsClosed (front ++ b ∷ [])
IsClosed-push [] b o lt = inl (lt, refl)
IsClosed-push (c ∷ front) b o lt = inr (o.0, o.1, IsClosed-push front b o.2 lt)

-- ---- a read that is cut off

-- the first byte of a spelling
byte_first : (q r rest : List ℕ) → IsClosed q → q ++ r ≡ rest → (b : ℕ) × (bytes : List ℕ) × (more : List ℕ) × IsByte b bytes × (bytes ++ more ≡ rest)
byte_first [] r rest h e = absurd h
byte_first (d ∷ q) r rest h e = (d, d ∷ [], q ++ r, record { only = refl; small = elim h [ inl s ↦ omega arith | inr s ↦ omega arith ] }, e)

open_wants : (front : List ℕ) → IsOpen front → Wants IsLong front IsByte
open_wants front o = record {
  wants = λ v p r rest s e.
      let m = open_prefix front p r rest o s.closed e in
      byte_first m.0 r rest m.2 m.3;
}

none_came : (front bytes : List ℕ) → IsOpen front → Decides true IsByte (λ last. last ≡ []) bytes → Decides true IsLong IsOpen (front ++ bytes)
none_came front bytes o d =
    let none : bytes ≡ [] = d.joined ∙ (λ i. d.begun i ++ d.holds i) in
    record { front = []; last = front ++ bytes; joined = refl; begun = refl; holds = rw (none, append-nil front) o }

cut_off : (why : Why) (front bytes : List ℕ) → IsOpen front → Decides true IsByte (ByteMay why) bytes → Decides true IsLong (LongMay why) (front ++ bytes)
cut_off Truncated front bytes o d = none_came front bytes o d
cut_off Read front bytes o d = none_came front bytes o d
cut_off InputTooLong front bytes o d = none_came front bytes o d
cut_off _ front bytes o d = absurd d.holds

-- ---- the loop

-- bytes of groups were read, and this is their value
pub record LongWay (old now : Script) (value : ℕ) : Type 0 where
  pub front : List ℕ
  pub takes : Consumed old front now
  pub are_open : IsOpen front
  pub value_is : value ≡ value_of front

pub starts : (old : Script) → LongWay old old 0
starts old = record { front = []; takes = Consumed-none old; are_open = tt; value_is = refl }

module _ (old mid : Script) (v place : ℕ) (so_far : LongWay old mid v) (at : old.given + place ≡ mid.given) where
  here : length so_far.front ≡ place
  here = let g = so_far.takes.given in omega (arith, g, at)

  pushed : (b : ℕ) → value_of (so_far.front ++ b ∷ []) ≡ v + b % 128 * 128 ^ place
  pushed b = value_of-push so_far.front b ∙ rw (so_far.value_is, here) refl

  pub goes_on : (new : Script) (b n : ℕ) → ReadsValue IsByte mid b new → 128 ≤ b → n ≡ v + b % 128 * 128 ^ place → LongWay old new n
  goes_on new b n read le is =
      let only = read.spelled.only in
      record {
        front = so_far.front ++ b ∷ [];
        takes = Consumed-then old mid new so_far.front (b ∷ []) so_far.takes (rw only at read.takes);
        are_open = IsOpen-push so_far.front b so_far.are_open le read.spelled.small;
        value_is = rw (pushed b) is;
      }

  pub found : (new : Script) (b n : ℕ) → ReadsValue IsByte mid b new → b < 128 → n ≡ v + b % 128 * 128 ^ place → n < 2 ^ 64 → ReadsValue IsLong old n new
  found new b n read lt is fits =
      let only = read.spelled.only in
      record {
        bytes = so_far.front ++ b ∷ [];
        takes = Consumed-then old mid new so_far.front (b ∷ []) so_far.takes (rw only at read.takes);
        spelled = record { closed = IsClosed-push so_far.front b so_far.are_open lt; value = rw (pushed b) is; fits = fits };
      }

  pub byte_fails : (new : Script) (why : Why) → FailsPiece IsByte ByteMay mid why new → FailsPiece IsLong LongMay old why new
  byte_fails new why f =
      let wants = open_wants so_far.front so_far.are_open in
      record {
        bytes = so_far.front ++ f.bytes;
        takes = Consumed-then old mid new so_far.front f.bytes so_far.takes f.takes;
        reason = cut_off why so_far.front f.bytes so_far.are_open f.reason;
        format = λ is. NoneFits-after IsLong IsByte so_far.front f.bytes wants (f.format is);
        cut = λ is. NoneWithin-after IsLong IsByte so_far.front f.bytes wants (f.cut is);
        truncated = f.truncated;
        device = f.device;
        too_long = f.too_long;
      }

  -- no number goes on after groups that are 2^64 or above
  above : (b : ℕ) → 2 ^ 64 ≤ v + b % 128 * 128 ^ place → (n : ℕ) (q r more : List ℕ) → IsClosed q → IsLong n (so_far.front ++ q) → q ++ r ≡ b ∷ more → ⊥
  above b past n [] r more h s e = absurd h
  above b past n (d ∷ q) r more h s e =
      let head : d ≡ b = cc in
      let value : n ≡ v + value_of (d ∷ q) * 128 ^ place = s.value ∙ value_of-append so_far.front (d ∷ q) ∙ rw (so_far.value_is, here) refl in
      let least : b % 128 * 128 ^ place ≤ value_of (d ∷ q) * 128 ^ place = mul-le (b % 128) (128 ^ place) (value_of (d ∷ q)) (128 ^ place) (rw head (omega arith)) (omega arith) in
      omega (arith, value, least, past, s.fits)

  pub out_of_range : (new : Script) (b : ℕ) → ReadsValue IsByte mid b new → 2 ^ 64 ≤ v + b % 128 * 128 ^ place → FailsPiece IsLong LongMay old IntegerRange new
  out_of_range new b read past =
      let only = read.spelled.only in
      record {
        bytes = so_far.front ++ b ∷ [];
        takes = Consumed-then old mid new so_far.front (b ∷ []) so_far.takes (rw only at read.takes);
        reason = record {
          front = [];
          last = so_far.front ++ b ∷ [];
          joined = refl;
          begun = refl;
          holds = record { front = so_far.front; last = b; joined = refl; open_prefix = so_far.are_open; past = rw (pushed b) past };
        };
        format = λ _. record {
          none = λ u p r more s e.
              let m = open_prefix so_far.front p r (b ∷ more) so_far.are_open s.closed (e ∙ append_assoc so_far.front (b ∷ []) more) in
              above b past u m.0 r more m.2 (rw m.1 at s) m.3;
        };
        cut = λ is. absurd cc;
        truncated = λ is. absurd cc;
        device = λ is. absurd cc;
        too_long = λ is. absurd cc;
      }

-- ---- a group at its place

weight_le : (i k : ℕ) → i ≤ k → 128 ^ i ≤ 128 ^ k
weight_le i k le = pow-le-pow_right (omega arith) le

pub weight_fits : (place : ℕ) → place ≤ 9 → 128 ^ place < 2 ^ 64
weight_fits place le = let w : 128 ^ place ≤ 128 ^ 9 = weight_le place 9 le in omega (arith, w)

-- after the tenth a group that isn't zero exceeds 64 bits
pub far : (value group place : ℕ) → 0 < group → 9 < place → 2 ^ 64 ≤ value + group * 128 ^ place
far value group place some past =
    let w : 128 ^ 10 ≤ 128 ^ place = weight_le 10 place (omega arith) in
    let m : 1 * 128 ^ place ≤ group * 128 ^ place = mul-le 1 (128 ^ place) group (128 ^ place) some (omega arith) in
    omega (arith, w, m)

pub same_part : (part weight group place given : ℕ) → part ≡ weight * given → given ≡ group → weight ≡ 128 ^ place → part ≡ group * 128 ^ place
same_part part weight group place given is same w = is ∙ rw (same, w) (mul_comm (128 ^ place) group)
