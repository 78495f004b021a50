-- Filling room, some bytes at a time.
use Rattle.std.proofs.Common.{◌≡◌, ℕ, suc, ◌+◌, ◌-◌, ◌^◌, ◌<◌, ◌≤◌, min, List, [], ◌∷◌, ◌++◌, length, take, drop, set, get_or, Result, Ok, Err, Bool, true, false, MutBor, refl}
use Rattle.std.proofs.Common.{sym, ◌∙◌, ap, subst, append_assoc, length-append, arith}
use Rattle.std.specs.Prelude.{nat_lt, if◌then◌else◌}
use Rattle.std.proofs.lemmas.List.{length-take, length-drop, take_all, take-append-le, take_at, drop_at, drop-drop, drop_all}
use Rattle.std.proofs.Math.Seq.{drop-cons, set-append_seam}
use Rattle.std.proofs.lemmas.Bool.{ltb-true, ltb-false}
use lib.Seq.{take-append-add}
use borrow.Rule.Slice.PartMut.{put_mid}
use Rattle.oas_num.specs.SinkFault.{SinkFault}
use Rattle.oas_num.specs.Writing.{Puts, Writes}
use Rattle.oas_prepare.specs.Putting.{Counts}
use Rattle.oascanon_c.specs.declared.answers.Answer.{Answer}
use Rattle.oascanon_c.specs.declared.answers.Answer.TheVariants.{Done, TooSmall}
use Rattle.oascanon_c.specs.declared.filling.Filler.{Filler}
use Rattle.oascanon_c.specs.Rooms.{filled_with, answer_of, Puts as PutsInto}
use Rattle.oascanon_c.specs.Filling.{HasPut, Fills}
use Rattle.oascanon_c.specs.Laws.FillingLaws.{Fills-none}

pub filled_length : (start m : List ℕ) → length (filled_with start m) ≡ length start
filled_length start m = omega (arith, length-append (take (length start) m) (drop (length m) start), length-take (length start) m, length-drop (length m) start)

-- a byte more, where there is room for it
pub one_more : (start m : List ℕ) (b : ℕ) → length m < length start → set (filled_with start m) (length m) b ≡ filled_with start (m ++ b ∷ [])
one_more start m b h =
    let one : length (m ++ b ∷ []) ≡ length m + 1 = length-append m (b ∷ []) in
    let more : List ℕ = drop (suc (length m)) start in
    let next : suc (length m) ≡ length (m ++ b ∷ []) = omega (arith, one) in
    ap (λ (x : List ℕ). set (x ++ drop (length m) start) (length m) b) (take_all (length start) m (omega (arith, h)))
    ∙ ap (λ (x : List ℕ). set (m ++ x) (length m) b) (drop-cons start (length m) 0 h)
    ∙ set-append_seam m (get_or start (length m) 0) more b
    ∙ sym (append_assoc m (b ∷ []) more)
    ∙ ap (λ (n : ℕ). (m ++ b ∷ []) ++ drop n start) next
    ∙ ap (λ (x : List ℕ). x ++ drop (length (m ++ b ∷ [])) start) (sym (take_all (length start) (m ++ b ∷ []) (omega (arith, h, one))))

-- as many of more bytes as there is room for
module _ (start m bytes : List ℕ) (k : ℕ) (fits : length m ≤ length start) (is : k ≡ min (length bytes) (length start - length m)) where
  front : (b : Bool) → nat_lt (length start - length m) (length bytes) ≡ b → take (length start - length m) bytes ≡ take k bytes
  front true e = ap (λ (n : ℕ). take n bytes) (omega (arith, is, ltb-true (length start - length m) (length bytes) e))
  front false e =
      let all = ltb-false (length start - length m) (length bytes) e in
      take_all (length start - length m) bytes all ∙ sym (take_all k bytes (omega (arith, is, all)))

  back : (b : Bool) → nat_lt (length start - length m) (length bytes) ≡ b → drop (length m + length bytes) start ≡ drop (length m + k) start
  back true e =
      let over = ltb-true (length start - length m) (length bytes) e in
      drop_all (length m + length bytes) start (omega (arith, over)) ∙ sym (drop_all (length m + k) start (omega (arith, is, over, fits)))
  back false e = ap (λ (n : ℕ). drop (length m + n) start) (omega (arith, is, ltb-false (length start - length m) (length bytes) e))

  pub more : (ys : List ℕ) → ys ≡ take k bytes → put_mid (length m) (length m + k - length m) (filled_with start m) ys ≡ filled_with start (m ++ bytes)
  more ys e =
      let stands : filled_with start m ≡ m ++ drop (length m) start = ap (λ (x : List ℕ). x ++ drop (length m) start) (take_all (length start) m fits) in
      let part : length m + k - length m ≡ k = omega arith in
      let whole : length start ≡ length m + (length start - length m) = omega (arith, fits) in
      let taken : take (length start) (m ++ bytes) ≡ m ++ take k bytes =
      ap (λ (n : ℕ). take n (m ++ bytes)) whole ∙ take-append-add m bytes (length start - length m)
      ∙ ap (λ (x : List ℕ). m ++ x) (front (nat_lt (length start - length m) (length bytes)) refl) in
      let left : drop (length (m ++ bytes)) start ≡ drop (length m + k) start =
      ap (λ (n : ℕ). drop n start) (length-append m bytes) ∙ back (nat_lt (length start - length m) (length bytes)) refl in
      ap (λ (x : List ℕ). put_mid (length m) (length m + k - length m) x ys) stands
      ∙ ap (λ (x : List ℕ). x ++ (ys ++ drop (length m + k - length m) (drop (length m) (m ++ drop (length m) start)))) (take_at m (drop (length m) start) (length m) refl)
      ∙ ap (λ (x : List ℕ). m ++ (ys ++ drop (length m + k - length m) x)) (drop_at m (drop (length m) start) (length m) refl)
      ∙ ap (λ (n : ℕ). m ++ (ys ++ drop n (drop (length m) start))) part
      ∙ ap (λ (x : List ℕ). m ++ (ys ++ x)) (drop-drop k (length m) start)
      ∙ ap (λ (x : List ℕ). m ++ (x ++ drop (length m + k) start)) e
      ∙ sym (append_assoc m (take k bytes) (drop (length m + k) start))
      ∙ ap (λ (x : List ℕ). x ++ drop (length m + k) start) (sym taken)
      ∙ ap (λ (x : List ℕ). take (length start) (m ++ bytes) ++ x) (sym left)

-- and where there is none
pub no_more : (start m bytes : List ℕ) → length start ≤ length m → filled_with start m ≡ filled_with start (m ++ bytes)
no_more start m bytes h =
    ap (λ (x : List ℕ). take (length start) m ++ x) (drop_all (length m) start h)
    ∙ ap (λ (x : List ℕ). x ++ []) (sym (take-append-le (length start) m bytes h))
    ∙ ap (λ (x : List ℕ). take (length start) (m ++ bytes) ++ x) (sym (drop_all (length (m ++ bytes)) start (omega (arith, h, length-append m bytes))))

module _ (s : Filler) (bytes : List ℕ) where
  -- more bytes stand in the room, as far as there was place for them
  pub record Holds (room : MutBor (List ℕ)) (filled given : ℕ) : Type 0 where
    pub same : room.ghost_name ≡ s.room.ghost_name
    pub counted : given ≡ s.given
    pub fills : (start m : List ℕ) → HasPut s start m → filled ≡ min (length (m ++ bytes)) (length start)
    pub holds : (start m : List ℕ) → HasPut s start m → room.now ≡ filled_with start (m ++ bytes)

  -- as many as fit, where some do
  module _ (k : ℕ) (ys : List ℕ) (lt : s.filled < length s.room.now) (is : k ≡ min (length bytes) (length s.room.now - s.filled)) (e : ys ≡ take k bytes) where
    pub room_put_all : (start m : List ℕ) → HasPut s start m → put_mid s.filled (s.filled + k - s.filled) s.room.now ys ≡ filled_with start (m ++ bytes)
    room_put_all start m h =
        let all : length s.room.now ≡ length start = ap length h.room ∙ filled_length start m in
        let count : s.filled ≡ length m = omega (arith, h.filled, all, lt) in
        ap (λ (n : ℕ). put_mid n (n + k - n) s.room.now ys) count
        ∙ ap (λ (x : List ℕ). put_mid (length m) (length m + k - length m) x ys) h.room
        ∙ more start m bytes k (omega (arith, lt, count, all)) (omega (arith, is, count, all)) ys e

    pub filled_put_all : (start m : List ℕ) → HasPut s start m → s.filled + k ≡ min (length (m ++ bytes)) (length start)
    filled_put_all start m h =
        let all : length s.room.now ≡ length start = ap length h.room ∙ filled_length start m in
        omega (arith, h.filled, all, lt, is, length-append m bytes)

  pub room_full : length s.room.now ≤ s.filled → (start m : List ℕ) → HasPut s start m → s.room.now ≡ filled_with start (m ++ bytes)
  room_full le start m h =
      let all : length s.room.now ≡ length start = ap length h.room ∙ filled_length start m in
      h.room ∙ no_more start m bytes (omega (arith, le, h.filled, all))

  pub filled_full : length s.room.now ≤ s.filled → (start m : List ℕ) → HasPut s start m → s.filled ≡ min (length (m ++ bytes)) (length start)
  filled_full le start m h =
      let all : length s.room.now ≡ length start = ap length h.room ∙ filled_length start m in
      omega (arith, h.filled, all, le, length-append m bytes)

  -- and they were counted
  pub put_more : (room : MutBor (List ℕ)) (filled given : ℕ) → Holds room filled given → (t : Filler) → t.room ≡ room → t.filled ≡ filled → t.given
      ≡ min (given + length bytes) (2 ^ 64 - 1) → Puts Fills (λ _. 0) s bytes t
  put_more room filled given h t same fills counts = record {
    after = λ start before f. record {
      same = ap (λ (r : MutBor (List ℕ)). r.ghost_name) same ∙ h.same ∙ f.same;
      puts = λ old m p. subst (HasPut t old) (append_assoc m before bytes) (one old (m ++ before) (f.puts old m p));
    };
    no_fewer = omega arith;
  } where
    one : (old m : List ℕ) → HasPut s old m → HasPut t old (m ++ bytes)
    one old m p = record {
      filled = fills ∙ h.fills old m p;
      count = omega (arith, counts, h.counted, p.count, length-append m bytes);
      room = ap (λ (r : MutBor (List ℕ)). r.now) same ∙ h.holds old m p;
    }

-- a byte, where there is place for it
module _ (s : Filler) (byte : ℕ) where
  pub room_put : s.filled < length s.room.now → (start m : List ℕ) → HasPut s start m → set s.room.now s.filled byte ≡ filled_with start (m ++ byte ∷ [])
  room_put lt start m h =
      let all : length s.room.now ≡ length start = ap length h.room ∙ filled_length start m in
      let count : s.filled ≡ length m = omega (arith, h.filled, all, lt) in
      ap (λ (x : List ℕ). set x s.filled byte) h.room
      ∙ ap (λ (n : ℕ). set (filled_with start m) n byte) count
      ∙ one_more start m byte (omega (arith, lt, count, all))

  pub filled_put : s.filled < length s.room.now → (start m : List ℕ) → HasPut s start m → s.filled + 1 ≡ min (length (m ++ byte ∷ [])) (length start)
  filled_put lt start m h =
      let all : length s.room.now ≡ length start = ap length h.room ∙ filled_length start m in
      omega (arith, h.filled, all, lt, length-append m (byte ∷ []))

-- ---- all bytes

module _ (end : Filler) (old whole : List ℕ) (h : HasPut end old whole) (short : length whole < 2 ^ 64) where
  by_cases : (b : Bool) → nat_lt (length end.room.now) end.given ≡ b → PutsInto whole old (if b then TooSmall end.given else Done end.given) end.room.now
  by_cases true e =
      let all : length end.room.now ≡ length old = ap length h.room ∙ filled_length old whole in
      (omega (arith, h.count, short), omega (arith, ltb-true (length end.room.now) end.given e, all, h.count, short), h.room)
  by_cases false e =
      let all : length end.room.now ≡ length old = ap length h.room ∙ filled_length old whole in
      (omega (arith, h.count, short), omega (arith, ltb-false (length end.room.now) end.given e, all, h.count, short), h.room)

  -- what is told of them
  told : PutsInto whole old (answer_of end.given end.room.now) end.room.now
  told = by_cases (nat_lt (length end.room.now) end.given) refl

module _ (start end : Filler) (old whole last : List ℕ) (answer : Answer) (h : HasPut start old []) (is : answer ≡ answer_of end.given end.room.now)
    (follows : start.room.ghost_name ≡ end.room.ghost_name → last ≡ end.room.now) (short : length whole < 2 ^ 64) where
  filled : Fills start whole end → PutsInto whole old answer last
  filled f =
      let stands : last ≡ end.room.now = follows (sym f.same) in
      subst (λ (a : Answer). PutsInto whole old a last) (sym is)
      (subst (λ (x : List ℕ). PutsInto whole old (answer_of end.given end.room.now) x) (sym stands) (told end old whole (f.puts old [] h) short))

  pub counted : (r : Result ℕ SinkFault) → Counts Fills (λ _. 0) start whole r end → PutsInto whole old answer last
  counted (Ok n) p = filled (p.puts.after start [] (Fills-none start))
  counted (Err fault) p = absurd (omega (arith, p.failed))

  pub written : (r : Result Unit SinkFault) → Writes Fills (λ _. 0) start whole r end → PutsInto whole old answer last
  written (Ok done) p = filled (p.after start [] (Fills-none start))
  written (Err fault) p = absurd (omega (arith, p.failed))
