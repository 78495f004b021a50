-- What is taken from the start of bytes, part by part.
use Rattle.std.proofs.Common.{◌≡◌, true, false, ℕ, ℤ, ◌+◌, ◌*◌, ◌%◌, ◌^◌, ◌<◌, ◌≤◌, zero, suc, Bool, Option, None, Some, List, [], ◌∷◌, ◌++◌, length, inl, inr, refl, ap, sym, ◌∙◌, append_assoc, add-one, arith}
use Rattle.std.specs.Prelude.{IsTrue, IfSome, ◌&&◌, ◌==◌, not}
use Rattle.std.proofs.lemmas.List.{length-append}
use Rattle.std.proofs.Math.Nat.{pow-suc, pow-le-pow_right, lt_of_not-le}
use Rattle.std.proofs.lemmas.Nat.{mul-le}
use Rattle.oas_num.specs.Integers.{IsOpen, IsClosed, IsUnsigned, value_of}
use Rattle.oas_num.specs.Style.{IsShortest}
use Rattle.oas_record.specs.Kinds.{Kind, number, signed}
use Rattle.oas_record.specs.Trees.{pair, image, there, either}
use Rattle.oas_record.specs.Fields.{spot, spot_of, repetition}
use Rattle.oas_peek.specs.Fronts.{Left, ConsumesByte, ConsumesPrefix, behind, noted}

-- one part after another
pub pair_takes : {V W : Type 0} {A : Kind V} {v : V} {w : W} (B : V → Kind W) {old mid new : Left} → ConsumesPrefix A v old mid → ConsumesPrefix (B v) w mid new → ConsumesPrefix (pair A B) (v, w) old new
pair_takes B p q = record {
  bytes = p.bytes ++ q.bytes;
  joined = p.joined ∙ ap (λ t. p.bytes ++ t) q.joined ∙ sym (append_assoc p.bytes q.bytes _);
  spelled = record { front = p.bytes; back = q.bytes; first = p.spelled; second = q.spelled; joined = refl };
  shortest = λ now. let s = q.shortest now in let f = p.shortest s.0 in (f.0, record { front = p.bytes; back = q.bytes; first = f.1; second = s.1; joined = refl });
}

value_below : (bytes : List ℕ) → value_of bytes < 128 ^ length bytes
value_below [] = omega arith
value_below (b ∷ bs) =
    let e = value_below bs in
    let p : 128 ^ suc (length bs) ≡ 128 ^ length bs * 128 = pow-suc 128 (length bs) in
    rw p (omega (arith, e))

push_value : (front : List ℕ) (b : ℕ) → value_of (front ++ b ∷ []) ≡ value_of front + b % 128 * 128 ^ length front
push_value [] b = omega arith
push_value (c ∷ front) b =
    let e = push_value front b in
    let p : 128 ^ suc (length front) ≡ 128 ^ length front * 128 = pow-suc 128 (length front) in
    rw (e, p) (omega arith)

push_open : (front : List ℕ) (b : ℕ) → IsOpen front → 128 ≤ b → b < 256 → IsOpen (front ++ b ∷ [])
push_open [] b o le lt = (le, lt, tt)
push_open (c ∷ front) b o le lt = (o.0, o.1, push_open front b o.2 le lt)

push_closed : (front : List ℕ) (b : ℕ) → IsOpen front → b < 128 → IsClosed (front ++ b ∷ [])
push_closed [] b o lt = inl (lt, refl)
push_closed (c ∷ front) b o lt = inr (o.0, o.1, push_closed front b o.2 lt)

some_closed : (bytes : List ℕ) → IsClosed bytes → 0 < length bytes
some_closed [] h = absurd h
some_closed (b ∷ bs) h = omega arith

-- one byte is the shortest spelling
pub one_byte : (b : ℕ) → b < 128 → IsUnsigned b (b ∷ [])
one_byte b lt = record { closed = inl (lt, refl); short = omega arith; value = omega (arith, lt); fits = omega (arith, lt) }

pub one_shortest : (b : ℕ) → b < 128 → IsShortest b (b ∷ [])
one_shortest b lt = record { spelled = one_byte b lt; least = λ others s. some_closed others s.closed }

-- so is one that doesn't end in a zero
last_counts : (front others : List ℕ) (b n : ℕ) → 0 < b → b < 128 → n ≡ value_of (front ++ b ∷ []) → n ≡ value_of others → length others ≤ length front → ⊥
last_counts front others b n some lt is too le =
    let below = value_below others in
    let grows : 128 ^ length others ≤ 128 ^ length front = pow-le-pow_right (omega arith) le in
    let pushed = push_value front b in
    let digit : b % 128 ≡ b = omega (arith, lt) in
    let least : 1 * 128 ^ length front ≤ b * 128 ^ length front = mul-le 1 (128 ^ length front) b (128 ^ length front) (omega (arith, some)) (omega arith) in
    omega (arith, below, grows, rw digit at pushed, least, is, too)

pub longer_shortest : (front : List ℕ) (b n : ℕ) → 0 < b → b < 128 → IsUnsigned n (front ++ b ∷ []) → IsShortest n (front ++ b ∷ [])
longer_shortest front b n some lt s = record {
  spelled = s;
  least = λ others o.
      let gt : length front < length others = lt_of_not-le (λ le. last_counts front others b n some lt s.value o.value le) in
      omega (arith, gt, length-append front (b ∷ []));
}

-- this many bytes of groups were taken after the first, and this is the value of all
pub record Partway (first : ℕ) (old now : Left) (count value weight : ℕ) : Type 0 where
  pub front : List ℕ
  pub joined : first ∷ old.bytes ≡ front ++ now.bytes
  pub are_open : IsOpen front
  pub len : length front ≡ count + 1
  pub value_is : value ≡ value_of front
  pub weight_is : weight ≡ 128 ^ (count + 1)
  pub below : value < weight
  pub same : now.shortest ≡ old.shortest

pub begins : (first : ℕ) (old : Left) → 128 ≤ first → first < 256 → Partway first old old 0 (first % 128) 128
begins first old le lt = record { front = first ∷ []; joined = refl; are_open = (le, lt, tt); len = refl; value_is = omega arith; weight_is = refl; below = omega arith; same = refl }

weight_le : (i k : ℕ) → i ≤ k → 128 ^ i ≤ 128 ^ k
weight_le i k le = pow-le-pow_right (omega arith) le

digit_le : (b w : ℕ) → b % 128 * w ≤ 127 * w
digit_le b w = mul-le (b % 128) w 127 w (omega arith) (omega arith)

pub both_true : (a b : Bool) → IsTrue (a && b) → IsTrue a × IsTrue b
both_true true b t = (refl, t)
both_true false b t = cc

pub not_zero : (b : ℕ) → IsTrue (not (b == 0)) → 0 < b
not_zero zero t = cc
not_zero (suc b) t = omega arith

module _ (first : ℕ) (old now : Left) (i v w : ℕ) (so_far : Partway first old now i v w) where
  -- the next digit fits
  pub digit_fits : (b : ℕ) → i < 8 → v + b % 128 * w < 2 ^ 63
  digit_fits b lt =
      let le : 128 ^ (i + 1) ≤ 128 ^ 8 = weight_le (i + 1) 8 (omega arith) in
      let d = digit_le b w in
      omega (arith, so_far.weight_is, so_far.below)

  pub weight_fits : i < 8 → w * 128 ≤ 2 ^ 63
  weight_fits lt =
      let le : 128 ^ (i + 1) ≤ 128 ^ 8 = weight_le (i + 1) 8 (omega arith) in
      omega (arith, so_far.weight_is)

  -- one more byte, with more to follow
  pub goes_on : (new : Left) (b : ℕ) → ConsumesByte b now new → 128 ≤ b → Partway first old new (i + 1) (v + b % 128 * w) (w * 128)
  goes_on new b took le =
      let d = digit_le b w in
      record {
        front = so_far.front ++ b ∷ [];
        joined = so_far.joined ∙ ap (λ t. so_far.front ++ t) took.joined ∙ sym (append_assoc so_far.front (b ∷ []) new.bytes);
        are_open = push_open so_far.front b so_far.are_open le took.small;
        len = omega (arith, length-append so_far.front (b ∷ []), so_far.len);
        value_is = let p : 128 ^ length so_far.front ≡ w = rw so_far.len (sym so_far.weight_is) in rw (push_value so_far.front b, p, so_far.value_is) refl;
        weight_is = let p : 128 ^ suc (i + 1) ≡ 128 ^ (i + 1) * 128 = pow-suc 128 (i + 1) in rw add-one (omega (arith, p, so_far.weight_is));
        below = omega (arith, so_far.below);
        same = took.shortest ∙ so_far.same;
      }

  -- the last byte
  pub ends : (new : Left) (b : ℕ) (least : Bool) → i < 8 → ConsumesByte b now new → b < 128 → (IsTrue least → 0 < b)
      → ConsumesPrefix number (v + b % 128 * w) (behind first old) (noted least new)
  ends new b least few took lt is =
      let p : 128 ^ length so_far.front ≡ w = rw so_far.len (sym so_far.weight_is) in
      let s : IsUnsigned (v + b % 128 * w) (so_far.front ++ b ∷ []) = record {
        closed = push_closed so_far.front b so_far.are_open lt;
        short = omega (arith, length-append so_far.front (b ∷ []), so_far.len, few);
        value = rw (push_value so_far.front b, p, sym so_far.value_is) refl;
        fits = omega (arith, digit_fits b few);
      } in
      record {
        bytes = so_far.front ++ b ∷ [];
        joined = so_far.joined ∙ ap (λ t. so_far.front ++ t) took.joined ∙ sym (append_assoc so_far.front (b ∷ []) new.bytes);
        spelled = s;
        shortest = λ now.
            let f = both_true new.shortest least now in
            (rw (sym so_far.same, sym took.shortest) f.0, longer_shortest so_far.front b _ (is f.1) lt s);
      }

-- a number of one byte
pub one_takes : (b : ℕ) (old new : Left) → ConsumesByte b old new → b < 128 → ConsumesPrefix number b old new
one_takes b old new took lt = record {
  bytes = b ∷ [];
  joined = took.joined;
  spelled = one_byte b lt;
  shortest = λ now. (rw (sym took.shortest) now, one_shortest b lt);
}

-- a number of more bytes, of which the first was taken before
pub behind_takes : (b n : ℕ) (old mid new : Left) → ConsumesByte b old mid → ConsumesPrefix number n (behind b mid) new → ConsumesPrefix number n old new
behind_takes b n old mid new took p = record {
  bytes = p.bytes;
  joined = took.joined ∙ p.joined;
  spelled = p.spelled;
  shortest = λ now. let s = p.shortest now in (rw (sym took.shortest) s.0, s.1);
}

pub behind_some : (b : ℕ) (old mid new : Left) → ConsumesByte b old mid → (r : Option ℕ) → IfSome r (λ n. ConsumesPrefix number n (behind b mid) new) → IfSome r (λ n. ConsumesPrefix number n old new)
behind_some b old mid new took None h = h
behind_some b old mid new took (Some n) h = behind_takes b n old mid new took h

-- what a value denotes
pub image_takes : {U V : Type 0} (f : U → V) (back : V → U) (A : Kind U) (inverse : (u : U) (bytes : List ℕ) → A.shortest u bytes → back (f u) ≡ u) {u : U} {old new : Left}
    → ConsumesPrefix A u old new → ConsumesPrefix (image f back A inverse) (f u) old new
image_takes f back A inverse {u} p = record {
  bytes = p.bytes;
  joined = p.joined;
  spelled = record { from = u; is = refl; spelled = p.spelled };
  shortest = λ now. let s = p.shortest now in (s.0, record { from = u; is = refl; spelled = s.1 });
}

-- a field that isn't given
pub none_takes : {V : Type 0} (A : Kind V) (here : Bool) (now : Left) → here ≡ false → ConsumesPrefix (there here A) None now now
none_takes A here now is = record { bytes = []; joined = refl; spelled = rw is refl; shortest = λ t. (t, rw is refl) }

-- a field that is given
pub some_takes : {V : Type 0} (A : Kind V) (here : Bool) → here ≡ true → {v : V} {old new : Left} → ConsumesPrefix A v old new → ConsumesPrefix (there here A) (Some v) old new
some_takes A here is p = record { bytes = p.bytes; joined = p.joined; spelled = rw is p.spelled; shortest = λ now. let s = p.shortest now in (s.0, rw is s.1) }

-- the one of two kinds that the test chooses
pub first_takes : {V : Type 0} (test : Bool) (A B : Kind V) → test ≡ true → {v : V} {old new : Left} → ConsumesPrefix A v old new → ConsumesPrefix (either test A B) v old new
first_takes test A B is p = record { bytes = p.bytes; joined = p.joined; spelled = rw is p.spelled; shortest = λ now. let s = p.shortest now in (s.0, rw is s.1) }

pub second_takes : {V : Type 0} (test : Bool) (A B : Kind V) → test ≡ false → {v : V} {old new : Left} → ConsumesPrefix B v old new → ConsumesPrefix (either test A B) v old new
second_takes test A B is p = record { bytes = p.bytes; joined = p.joined; spelled = rw is p.spelled; shortest = λ now. let s = p.shortest now in (s.0, rw is s.1) }

-- x and y, where there is no repetition
pub spot_takes : (with_x with_y repeated : Bool) → repeated ≡ false → {x y : Option ℤ} {old mid new : Left} → ConsumesPrefix (there with_x signed) x old mid → ConsumesPrefix (there with_y signed) y mid new
    → ConsumesPrefix (spot with_x with_y repeated) (record { x = x; y = y; repetition = None }) old new
spot_takes with_x with_y repeated once p q = image_takes spot_of _ _ _
    (pair_takes (λ _. pair (there with_y signed) (λ _. there repeated repetition)) p (pair_takes (λ _. there repeated repetition) q (none_takes repetition repeated _ once)))

-- the bytes that are left were there before
pub leaves_fewer : {V : Type 0} (A : Kind V) {v : V} {old new : Left} → ConsumesPrefix A v old new → length new.bytes ≤ length old.bytes
leaves_fewer A {new = new} p = rw p.joined (omega (arith, length-append p.bytes new.bytes))
