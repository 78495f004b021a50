-- Reading the magic.
use Rattle.std.proofs.Common.{◌≡◌, ◌≢◌, ℕ, ◌+◌, ◌<◌, List, [], ◌∷◌, ◌++◌, length, get_or, refl, sym, ap, subst, ◌∙◌, append_assoc, arith}
use Rattle.std.proofs.lemmas.List.{append-nil, append_cancel_left, length-append}
use Rattle.oas_num.specs.declared.refusals.Why.{Why}
use Rattle.oas_num.specs.declared.refusals.Why.TheVariants.{Magic, Truncated, Read, InputTooLong}
use Rattle.oas_num.specs.Script.{Script, Consumed}
use Rattle.oas_num.specs.Grammar.{IsByte}
use Rattle.oas_num.specs.Texts.{IsOf}
use Rattle.oas_num.specs.Begun.{Begins}
use Rattle.oas_num.specs.Reading.{ReadsValue, Fails, FailsPiece, ByteMay}
use Rattle.oas_num.proofs.ReadLemmas.{Consumed-none, Consumed-then, Wants, Fails-after}
use Rattle.oas_record.specs.Heads.{magic, IsMagic, MagicMay}
use Rattle.oas_num.specs.Laws.BegunLaws.{Begins-none, HasSome-exactly}

-- ---- the magic

MagicMay-byte : (why : Why) (last : List ℕ) → ByteMay why last → MagicMay why last
MagicMay-byte Truncated last h = h
MagicMay-byte Read last h = h
MagicMay-byte InputTooLong last h = h
MagicMay-byte _ last h = absurd h

-- this much of it was read
pub record Matched (old now : Script) (count : ℕ) : Type 0 where
  pub front : List ℕ
  pub rest : List ℕ
  pub is_magic : magic ≡ front ++ rest
  pub len : length front ≡ count
  pub takes : Consumed old front now

pub matched_none : (s : Script) → Matched s s 0
matched_none s = record { front = []; rest = magic; is_magic = refl; len = refl; takes = Consumed-none s }

magic_small : IsOf (λ b. b < 256) magic
magic_small = (
  omega arith,
  (
    omega arith,
    (
      omega arith,
      (
        omega arith,
        (omega arith, (omega arith, (omega arith, (omega arith, (omega arith, (omega arith, (omega arith, (omega arith, (omega arith, tt))))))))),
      ),
    ),
  ),
)

rest_of_class : (class : ℕ → Type 0) (front rest : List ℕ) → IsOf class (front ++ rest) → IsOf class rest
rest_of_class class [] rest h = h
rest_of_class class (b ∷ front) rest h = rest_of_class class front rest h.1

-- what follows the prefix
at_length : (front rest : List ℕ) (w : ℕ) → get_or (front ++ w ∷ rest) (length front) 0 ≡ w
at_length [] rest w = refl
at_length (b ∷ front) rest w = at_length front rest w

magic_wants : (front rest : List ℕ) (w : ℕ) → magic ≡ front ++ w ∷ rest → Wants IsMagic front IsByte
magic_wants front rest w is = record {
  wants = λ v p r more s e.
      let same : (w ∷ rest) ++ r ≡ more =
      append_cancel_left front ((w ∷ rest) ++ r) more (sym (append_assoc front (w ∷ rest) r) ∙ ap (λ (c : List ℕ). c ++ r) (sym is ∙ sym s) ∙ e) in
      let small = rest_of_class (λ b. b < 256) front (w ∷ rest) (subst (IsOf (λ b. b < 256)) is magic_small) in
      (w, w ∷ [], rest ++ r, record { only = refl; small = small.0 }, same);
}

-- one more byte is needed
some_left : (front rest : List ℕ) (count : ℕ) → magic ≡ front ++ rest → length front ≡ count → count < 13 → (w : ℕ) × (more : List ℕ) × (rest ≡ w ∷ more)
some_left front [] count is len lt = let l : 13 ≡ length (front ++ []) = ap length is in absurd (omega (arith, l, len, lt, length-append front []))
some_left front (w ∷ more) count is len lt = (w, more, refl)

module _ (old mid new : Script) (count : ℕ) (lt : count < 13) (m : Matched old mid count) where
  pub magic_fails : (why : Why) → FailsPiece IsByte ByteMay mid why new → Fails IsMagic MagicMay old why new
  magic_fails why f =
      let left = some_left m.front m.rest count m.is_magic m.len lt in
      let so_far : Begins IsMagic (m.front ++ []) = record { value = tt; rest = m.rest; spelled = ap (λ (c : List ℕ). c ++ m.rest) (append-nil m.front) ∙ sym m.is_magic } in
      Fails-after IsMagic IsByte MagicMay ByteMay old mid new why m.front (MagicMay-byte why) m.takes (magic_wants m.front left.1 left.0 (m.is_magic ∙ ap (λ (c : List ℕ). m.front ++ c) left.2))
      (λ a none. subst (λ (c : List ℕ). Begins IsMagic (m.front ++ c)) (sym none) so_far) f

  pub matched_more : (byte : ℕ) → byte ≡ get_or magic count 0 → ReadsValue IsByte mid byte new → Matched old new (count + 1)
  matched_more byte same read =
      let left = some_left m.front m.rest count m.is_magic m.len lt in
      let is : magic ≡ m.front ++ left.0 ∷ left.1 = m.is_magic ∙ ap (λ (c : List ℕ). m.front ++ c) left.2 in
      let w : byte ≡ left.0 = same ∙ ap (λ (c : List ℕ). get_or c count 0) is ∙ ap (λ n. get_or (m.front ++ left.0 ∷ left.1) n 0) (sym m.len) ∙ at_length m.front left.1 left.0 in
      record {
        front = m.front ++ byte ∷ [];
        rest = left.1;
        is_magic = is ∙ ap (λ (c : ℕ). m.front ++ c ∷ left.1) (sym w) ∙ sym (append_assoc m.front (byte ∷ []) left.1);
        len = omega (arith, length-append m.front (byte ∷ []), m.len);
        takes = let only = read.spelled.only in Consumed-then old mid new m.front (byte ∷ []) m.takes (rw only at read.takes);
      }

  pub magic_wrong : (byte : ℕ) → byte ≢ get_or magic count 0 → ReadsValue IsByte mid byte new → Fails IsMagic MagicMay old Magic new
  magic_wrong byte other read =
      let left = some_left m.front m.rest count m.is_magic m.len lt in
      let is : magic ≡ m.front ++ left.0 ∷ left.1 = m.is_magic ∙ ap (λ (c : List ℕ). m.front ++ c) left.2 in
      let w : get_or magic count 0 ≡ left.0 = ap (λ (c : List ℕ). get_or c count 0) is ∙ ap (λ n. get_or (m.front ++ left.0 ∷ left.1) n 0) (sym m.len) ∙ at_length m.front left.1 left.0 in
      let isnt : byte ≢ left.0 = λ e. other (e ∙ sym w) in
      let only = read.spelled.only in
      record {
        bytes = m.front ++ byte ∷ [];
        takes = Consumed-then old mid new m.front (byte ∷ []) m.takes (rw only at read.takes);
        reason = record {
          front = [];
          last = m.front ++ byte ∷ [];
          joined = refl;
          begun = Begins-none IsMagic (HasSome-exactly magic);
          holds = record { front = m.front; wanted = left.0; rest = left.1; byte = byte; is_magic = is; joined = refl; other = isnt };
        };
        format = λ _. record {
          none = λ v p r more s e.
              let same : (left.0 ∷ left.1) ++ r ≡ (byte ∷ []) ++ more =
              append_cancel_left m.front ((left.0 ∷ left.1) ++ r) ((byte ∷ []) ++ more)
              (sym (append_assoc m.front (left.0 ∷ left.1) r) ∙ ap (λ (c : List ℕ). c ++ r) (sym is ∙ sym s) ∙ e
              ∙ append_assoc m.front (byte ∷ []) more) in
              let head : left.0 ≡ byte = cc in
              isnt (sym head);
        };
        cut = λ is. absurd cc;
        truncated = λ is. absurd cc;
        device = λ is. absurd cc;
        too_long = λ is. absurd cc;
      }

none_left : (front rest : List ℕ) → magic ≡ front ++ rest → length front ≡ 13 → front ≡ magic
none_left front [] is len = sym (append-nil front) ∙ sym is
none_left front (w ∷ rest) is len = let l : 13 ≡ length (front ++ w ∷ rest) = ap length is in absurd (omega (arith, l, len, length-append front (w ∷ rest)))

pub magic_done : (old new : Script) (count : ℕ) (v : Unit {0}) → count ≡ 13 → Matched old new count → ReadsValue IsMagic old v new
magic_done old new count v is m = record { bytes = m.front; spelled = none_left m.front m.rest m.is_magic (m.len ∙ is); takes = m.takes }
