-- The loop over the bytes of an integer.
use Rattle.std.proofs.Common.{◌≡◌, true, ℕ, ◌+◌, ◌*◌, ◌%◌, ◌^◌, ◌<◌, ◌≤◌, suc, List, [], ◌∷◌, ◌++◌, length, inl, inr, refl, ap, ◌∙◌, append_assoc, add-one, arith}
use Rattle.std.proofs.lemmas.List.{length-append, append-nil}
use Rattle.std.proofs.Math.Nat.{pow-suc, pow-le-pow_right}
use Rattle.std.proofs.lemmas.Nat.{mul-le}
use Rattle.oas_num.specs.declared.refusals.Why.{Why}
use Rattle.oas_num.specs.declared.refusals.Why.TheVariants.{Truncated, IntegerRange, Read, InputTooLong}
use Rattle.oas_num.specs.Script.{Script, Consumed}
use Rattle.oas_num.specs.Integers.{IsOpen, IsClosed, IsUnsigned, value_of}
use Rattle.oas_num.specs.Laws.IntegerLaws.{open_prefix}
use Rattle.oas_num.specs.Grammar.{IsByte}
use Rattle.oas_num.specs.Begun.{Decides}
use Rattle.oas_num.specs.Reading.{ReadsValue, FailsPiece, ByteMay, IntegerMay, IsUnended}
use Rattle.oas_num.proofs.ReadLemmas.{Consumed-none, Consumed-then, Wants, NoneFits-after, NoneWithin-after}

value_of-push : (front : List ℕ) (b : ℕ) → value_of (front ++ b ∷ []) ≡ value_of front + b % 128 * 128 ^ length front
value_of-push [] b = omega arith
value_of-push (c ∷ front) b =
    let e = value_of-push front b in
    let p : 128 ^ suc (length front) ≡ 128 ^ length front * 128 = pow-suc 128 (length front) in
    rw (e, p) (omega arith)

IsOpen-push : (front : List ℕ) (b : ℕ) → IsOpen front → 128 ≤ b → b < 256 → IsOpen (front ++ b ∷ [])
IsOpen-push [] b o le lt = (le, lt, tt)
IsOpen-push (c ∷ front) b o le lt = (o.0, o.1, IsOpen-push front b o.2 le lt)

IsClosed-push : (front : List ℕ) (b : ℕ) → IsOpen front → b < 128 → IsClosed (front ++ b ∷ [])
IsClosed-push [] b o lt = inl (lt, refl)
IsClosed-push (c ∷ front) b o lt = inr (o.0, o.1, IsClosed-push front b o.2 lt)

-- the first byte of a spelling
byte_first : (q r rest : List ℕ) → IsClosed q → q ++ r ≡ rest → (b : ℕ) × (bytes : List ℕ) × (more : List ℕ) × IsByte b bytes × (bytes ++ more ≡ rest)
byte_first [] r rest h e = absurd h
byte_first (d ∷ q) r rest h e = (d, d ∷ [], q ++ r, record { only = refl; small = elim h [ inl s ↦ omega arith | inr s ↦ omega arith ] }, e)

open_wants : (front : List ℕ) → IsOpen front → Wants IsUnsigned front IsByte
open_wants front o = record {
  wants = λ v p r rest s e.
      let m = open_prefix front p r rest o s.closed e in
      byte_first m.0 r rest m.2 m.3;
}

none_came : (front bytes : List ℕ) → IsOpen front → length front < 10 → Decides true IsByte (λ last. last ≡ []) bytes → Decides true IsUnsigned IsUnended (front ++ bytes)
none_came front bytes o few d =
    let none : bytes ≡ [] = d.joined ∙ (λ i. d.begun i ++ d.holds i) in
    record { front = []; last = front ++ bytes; joined = refl; begun = refl; holds = rw (none, append-nil front) (record { open_prefix = o; few = few }) }

-- the bytes of an integer that is cut off
cut_off : (why : Why) (front bytes : List ℕ) → IsOpen front → length front < 10 → Decides true IsByte (ByteMay why) bytes → Decides true IsUnsigned (IntegerMay why) (front ++ bytes)
cut_off Truncated front bytes o few d = none_came front bytes o few d
cut_off Read front bytes o few d = none_came front bytes o few d
cut_off InputTooLong front bytes o few d = none_came front bytes o few d
cut_off _ front bytes o few d = absurd d.holds

-- this many bytes of groups were read, and this is their value
pub record Partway (old now : Script) (count value weight : ℕ) : Type 0 where
  pub front : List ℕ
  pub takes : Consumed old front now
  pub are_open : IsOpen front
  pub len : length front ≡ count
  pub value_is : value ≡ value_of front
  pub weight_is : weight ≡ 128 ^ count
  pub below : value < weight

pub starts : (old : Script) → Partway old old 0 0 1
starts old = record { front = []; takes = Consumed-none old; are_open = tt; len = refl; value_is = refl; weight_is = refl; below = omega arith }

weight_le : (i k : ℕ) → i ≤ k → 128 ^ i ≤ 128 ^ k
weight_le i k le = pow-le-pow_right (omega arith) le

digit_le : (b w : ℕ) → b % 128 * w ≤ 127 * w
digit_le b w = mul-le (b % 128) w 127 w (omega arith) (omega arith)

module _ (old mid : Script) (i v w : ℕ) (so_far : Partway old mid i v w) where
  -- the next digit fits
  pub digit_fits : (b : ℕ) → i < 9 → v + b % 128 * w < 2 ^ 63
  digit_fits b lt =
      let le : 128 ^ i ≤ 128 ^ 8 = weight_le i 8 (omega arith) in
      let d = digit_le b w in
      omega (arith, so_far.weight_is, so_far.below)

  pub weight_fits : i < 9 → w * 128 ≤ 2 ^ 63
  weight_fits lt =
      let le : 128 ^ i ≤ 128 ^ 8 = weight_le i 8 (omega arith) in
      omega (arith, so_far.weight_is)

  -- after nine bytes
  pub at_ninth : 9 ≤ i → i ≤ 9 → (i ≡ 9) × (w ≡ 2 ^ 63) × (v < 2 ^ 63)
  at_ninth ge le =
      let is : i ≡ 9 = omega arith in
      let e : w ≡ 128 ^ 9 = so_far.weight_is ∙ ap (λ (k : ℕ). 128 ^ k) is in
      (is, e, omega (arith, so_far.below, e))

  pub goes_on : (new : Script) (b : ℕ) → ReadsValue IsByte mid b new → 128 ≤ b → Partway old new (i + 1) (v + b % 128 * w) (w * 128)
  goes_on new b read le =
      let only = read.spelled.only in
      let d = digit_le b w in
      record {
        front = so_far.front ++ b ∷ [];
        takes = Consumed-then old mid new so_far.front (b ∷ []) so_far.takes (rw only at read.takes);
        are_open = IsOpen-push so_far.front b so_far.are_open le read.spelled.small;
        len = omega (arith, length-append so_far.front (b ∷ []), so_far.len);
        value_is = rw (value_of-push so_far.front b) cc;
        weight_is = let p : 128 ^ suc i ≡ 128 ^ i * 128 = pow-suc 128 i in rw add-one (omega (arith, p, so_far.weight_is));
        below = omega (arith, so_far.below);
      }

  pub found : (new : Script) (b n : ℕ) → i ≤ 9 → ReadsValue IsByte mid b new → b < 128 → n ≡ v + b % 128 * w → n < 2 ^ 64 → ReadsValue IsUnsigned old n new
  found new b n few read lt is fits =
      let only = read.spelled.only in
      record {
        bytes = so_far.front ++ b ∷ [];
        takes = Consumed-then old mid new so_far.front (b ∷ []) so_far.takes (rw only at read.takes);
        spelled = record {
          closed = IsClosed-push so_far.front b so_far.are_open lt;
          short = omega (arith, length-append so_far.front (b ∷ []), so_far.len);
          value = rw (value_of-push so_far.front b) (is ∙ cc);
          fits = fits;
        };
      }

  pub byte_fails : i ≤ 9 → (new : Script) (why : Why) → FailsPiece IsByte ByteMay mid why new → FailsPiece IsUnsigned IntegerMay old why new
  byte_fails le new why f =
      let wants = open_wants so_far.front so_far.are_open in
      record {
        bytes = so_far.front ++ f.bytes;
        takes = Consumed-then old mid new so_far.front f.bytes so_far.takes f.takes;
        reason = cut_off why so_far.front f.bytes so_far.are_open (omega (arith, so_far.len)) f.reason;
        format = λ is. NoneFits-after IsUnsigned IsByte so_far.front f.bytes wants (f.format is);
        cut = λ is. NoneWithin-after IsUnsigned IsByte so_far.front f.bytes wants (f.cut is);
        truncated = f.truncated;
        device = f.device;
        too_long = f.too_long;
      }

pub last_fits : (v w b : ℕ) → w ≡ 2 ^ 63 → v < 2 ^ 63 → b ≤ 1 → v + b * w < 2 ^ 64
last_fits v w b e lt le = let m : b * w ≤ 1 * w = mul-le b w 1 w le (omega arith) in omega (arith, m, e, lt)

pub small_digit : (v w b : ℕ) → b ≤ 1 → v + b * w ≡ v + b % 128 * w
small_digit v w b le = let e : b % 128 ≡ b = omega arith in rw e refl

-- a whole integer has at least one byte
pub closed_long : (q : List ℕ) → IsClosed q → 0 < length q
closed_long [] h = absurd h
closed_long (d ∷ q) h = omega arith

-- a tenth byte above 1 leaves no number
tenth : (front q r more : List ℕ) (b n : ℕ) → length front ≡ 9 → 1 < b → IsClosed q → IsUnsigned n (front ++ q) → q ++ r ≡ b ∷ more → ⊥
tenth front [] r more b n len above h s e = absurd h
tenth front (d ∷ q) r more b n len above h s e =
    let head : d ≡ b = cc in
    elim h [
      | inl t ↦
          let none : q ≡ [] = t.1 in
          let v : n ≡ value_of front + d % 128 * 128 ^ length front = s.value ∙ (rw none (value_of-push front d)) in
          let w : 128 ^ length front ≡ 128 ^ 9 = ap (λ (k : ℕ). 128 ^ k) len in
          let v2 : n ≡ value_of front + d % 128 * 128 ^ 9 = rw w at v in
          omega (arith, v2, s.fits)
      | inr t ↦ omega (arith, closed_long q t.2, s.short, length-append front (d ∷ q))
    ]

pub out_of_range : (old mid new : Script) (i v w b : ℕ) → Partway old mid i v w → i ≡ 9 → ReadsValue IsByte mid b new → 1 < b → FailsPiece IsUnsigned IntegerMay old IntegerRange new
out_of_range old mid new i v w b so_far ninth read above =
    let only = read.spelled.only in
    record {
      bytes = so_far.front ++ b ∷ [];
      takes = Consumed-then old mid new so_far.front (b ∷ []) so_far.takes (rw only at read.takes);
      reason = record {
        front = [];
        last = so_far.front ++ b ∷ [];
        joined = refl;
        begun = refl;
        holds = record { front = so_far.front; tenth = b; joined = refl; nine = so_far.len ∙ ninth; open_prefix = so_far.are_open; above = above };
      };
      format = λ _. record {
        none = λ u p r more s e.
            let m = open_prefix so_far.front p r (b ∷ more) so_far.are_open s.closed (e ∙ append_assoc so_far.front (b ∷ []) more) in
            tenth so_far.front m.0 r more b u (so_far.len ∙ ninth) above m.2 (rw m.1 at s) m.3;
      };
      cut = λ is. absurd cc;
      truncated = λ is. absurd cc;
      device = λ is. absurd cc;
      too_long = λ is. absurd cc;
    }
