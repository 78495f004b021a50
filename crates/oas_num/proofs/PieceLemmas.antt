-- Reads in one piece, of values that are made of parts.
use Rattle.std.proofs.Common.{◌≡◌, ℕ, ◌<◌, Bool, true, false, List, [], ◌++◌, length, None, inl, inr, refl, sym, ap, subst, ◌∙◌, append_assoc}
use Rattle.std.proofs.lemmas.List.{append-nil}
use Rattle.oas_num.specs.declared.refusals.Why.{Why}
use Rattle.oas_num.specs.declared.refusals.Why.TheVariants.{Truncated, Read, InputTooLong, Memory}
use Rattle.oas_num.specs.Script.{Script, Consumed}
use Rattle.oas_num.specs.Grammar.{PrefixFree, IsPair, IsThere, IsCount}
use Rattle.oas_num.specs.Laws.GrammarLaws.{after_same}
use Rattle.oas_num.specs.Combinators.{IsKeyed}
use Rattle.oas_num.specs.Pieces.{PairTook, ThereTook, CountTook}
use Rattle.oas_num.specs.Reading.{ReadsValue, FailsPiece}
use Rattle.oas_num.proofs.ReadLemmas.{Consumed-none, Consumed-then, Wants, NoneFits-after, NoneWithin-after}
use Rattle.oas_num.proofs.MidwayLemmas.{Wants-first}
use Rattle.oas_num.proofs.GrammarLemmas.{Listed, listed_wants}

-- all bytes that were taken
pub whole_piece : {V : Type 0} {A : V → List ℕ → Type 0} {took : Why → List ℕ → Type 0} {old new : Script} {why : Why} → (f : FailsPiece A took old why new) → took why f.bytes
whole_piece {took = took} {why = why} f =
    let r = f.reason in
    let e : f.bytes ≡ r.last = r.joined ∙ ap (λ (a : List ℕ). a ++ r.last) r.begun in
    subst (took why) (sym e) r.holds

-- ---- what fails in a part fails as a whole

-- after some bytes
pub fails_behind : {V W : Type 0} (spells : V → List ℕ → Type 0) (next : W → List ℕ → Type 0) {there took : Why → List ℕ → Type 0} {old mid new : Script} {why : Why} (front : List ℕ)
    → ((bytes : List ℕ) → there why bytes → took why (front ++ bytes)) → Consumed old front mid → Wants spells front next → FailsPiece next there mid why new → FailsPiece spells took old why new
fails_behind spells next {old = old} {mid = mid} {new = new} front so takes wants f = record {
  bytes = front ++ f.bytes;
  takes = Consumed-then old mid new front f.bytes takes f.takes;
  reason = record { front = []; last = front ++ f.bytes; joined = refl; begun = refl; holds = so f.bytes (whole_piece f) };
  format = λ is. NoneFits-after spells next front f.bytes wants (f.format is);
  cut = λ is. NoneWithin-after spells next front f.bytes wants (f.cut is);
  truncated = f.truncated;
  device = f.device;
  too_long = f.too_long;
}

module _ {V W : Type 0} {A : V → List ℕ → Type 0} {B : V → W → List ℕ → Type 0} where
  -- the first part of a pair
  pub first_fails : {first : Why → List ℕ → Type 0} {second : V → Why → List ℕ → Type 0} {old new : Script} {why : Why}
      → FailsPiece A first old why new → FailsPiece (IsPair A B) (PairTook A first second) old why new
  first_fails {old = old} f = fails_behind (IsPair A B) A [] (λ _ h. inl h) (Consumed-none old) (Wants-first A B) f

  second_wanted : (v : V) (front : List ℕ) → PrefixFree A → A v front → Wants (IsPair A B) front (B v)
  second_wanted v front law first = record {
    wants = λ u p r rest s e.
        let joined : s.front ++ (s.back ++ r) ≡ front ++ rest = sym (append_assoc s.front s.back r) ∙ ap (λ (c : List ℕ). c ++ r) (sym s.joined) ∙ e in
        let one = law.one u.0 v s.front front (s.back ++ r) rest s.first first joined in
        (u.1, s.back, r, subst (λ (x : V). B x u.1 s.back) one.1 s.second, after_same s.front front (s.back ++ r) rest one.0 joined);
  }

  -- the second part, after the first was read
  pub fails_second : {there took : Why → List ℕ → Type 0} {old mid new : Script} {v : V} {why : Why} → PrefixFree A → (read : ReadsValue A old v mid)
      → ((bytes : List ℕ) → there why bytes → took why (read.bytes ++ bytes)) → FailsPiece (B v) there mid why new
      → FailsPiece (IsPair A B) took old why new
  fails_second {v = v} law read so f = fails_behind (IsPair A B) (B v) read.bytes so read.takes (second_wanted v read.bytes law read.spelled) f

  pub second_fails : {first : Why → List ℕ → Type 0} {second : V → Why → List ℕ → Type 0} {old mid new : Script} {v : V} {why : Why} → PrefixFree A
      → ReadsValue A old v mid → FailsPiece (B v) (second v) mid why new → FailsPiece (IsPair A B) (PairTook A first second) old why new
  second_fails {v = v} law read f =
      fails_second law read (λ bytes h. inr (record { value = v; front = read.bytes; last = bytes; spelled = read.spelled; holds = h; joined = refl })) f

-- what is keyed by what comes before it
pub keyed_fails : {K V : Type 0} (key : V → K) {A : K → List ℕ → Type 0} {B : K → V → List ℕ → Type 0} {took : Why → List ℕ → Type 0}
    {old new : Script} {why : Why} → FailsPiece (IsPair A B) took old why new → FailsPiece (IsKeyed key A B) took old why new
keyed_fails key {A = A} {B = B} {old = old} f = fails_behind (IsKeyed key A B) (IsPair A B) [] (λ _ h. h) (Consumed-none old) (record { wants = λ v p r rest s e. ((key v, v), p, r, s, e) }) f

-- Where there is no field, nothing fails: its spelling is no bytes at all.
not_there : {V : Type 0} (A : V → List ℕ → Type 0) (took : Why → List ℕ → Type 0) {old new : Script} (why : Why)
    → ((bytes : List ℕ) → ¬ took Memory bytes) → FailsPiece (IsThere false A) took old why new → ⊥
not_there A took Truncated kept f = (f.cut refl).none None [] f.bytes refl refl
not_there A took Read kept f = (f.cut refl).none None [] f.bytes refl refl
not_there A took InputTooLong kept f = (f.cut refl).none None [] f.bytes refl refl
not_there A took Memory kept f = kept f.bytes (whole_piece f)
not_there A took _ kept f = (f.format refl).none None [] f.bytes [] refl (sym (append-nil f.bytes))

pub there_fails_in : {V : Type 0} (A : V → List ℕ → Type 0) (took : Why → List ℕ → Type 0) {old new : Script} {why : Why} (here : Bool)
    → ((bytes : List ℕ) → ¬ took Memory bytes) → FailsPiece (IsThere here A) took old why new
    → FailsPiece (IsThere here A) (ThereTook here took) old why new
there_fails_in A took true kept f = f
there_fails_in A took {why = why} false kept f = absurd (not_there A took why kept f)

module _ {V : Type 0} {A : V → List ℕ → Type 0} {count : ℕ} where
  -- an item, after others
  pub item_fails : {there took : Why → List ℕ → Type 0} {old mid new : Script} {why : Why} {vs : List V} → PrefixFree A
      → ((bytes : List ℕ) → there why bytes → took why bytes) → length vs < count → Listed A old mid vs → FailsPiece A there mid why new
      → FailsPiece (IsCount A count) (CountTook A count took) old why new
  item_fails {vs = vs} law allows lt l f =
      fails_behind (IsCount A count) A l.bytes (λ bytes h. record
      { value = vs; front = l.bytes; last = bytes; spelled = l.each; holds = (lt, allows bytes h); joined = refl }) l.takes
      (listed_wants A count law l lt) f

  -- an item was read, and there is no memory for it
  pub item_unkept : {took : Why → List ℕ → Type 0} {old mid new : Script} {vs : List V} {v : V} → ((bytes : List ℕ) → A v bytes → took Memory bytes)
      → length vs < count → Listed A old mid vs → ReadsValue A mid v new → FailsPiece (IsCount A count) (CountTook A count took) old Memory new
  item_unkept {old = old} {mid = mid} {new = new} {vs = vs} allows lt l read = record {
    bytes = l.bytes ++ read.bytes;
    takes = Consumed-then old mid new l.bytes read.bytes l.takes read.takes;
    reason = record {
      front = [];
      last = l.bytes ++ read.bytes;
      joined = refl;
      begun = refl;
      holds = record { value = vs; front = l.bytes; last = read.bytes; spelled = l.each; holds = (lt, allows read.bytes read.spelled); joined = refl };
    };
    format = λ is. absurd cc;
    cut = λ is. absurd cc;
    truncated = λ is. absurd cc;
    device = λ is. absurd cc;
    too_long = λ is. absurd cc;
  }
