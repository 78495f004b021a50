-- Reading what is made of parts, where a refusal says in which part it is.
use Rattle.std.proofs.Common.{◌≡◌, ◌≢◌, ℕ, Bool, true, false, IsTrue, List, [], ◌++◌, inl, inr, refl, sym, ap, subst, ◌∙◌, append_assoc}
use Rattle.oas_num.specs.declared.refusals.Why.{Why}
use Rattle.oas_num.specs.declared.refusals.Why.TheVariants.{Truncated, Read, InputTooLong}
use Rattle.oas_num.specs.Script.{Script, Consumed}
use Rattle.oas_num.specs.Grammar.{PrefixFree, IsPair, IsSuch, IsImage, IsThere}
use Rattle.oas_num.specs.Laws.GrammarLaws.{after_same}
use Rattle.oas_num.specs.Integers.{IsUnsigned, IsSigned}
use Rattle.oas_num.specs.Pieces.{PairTook, ThereTook, SuchTook}
use Rattle.oas_num.specs.Reading.{is_format, ReadsValue, FailsPiece, IntegerMay}
use Rattle.oas_num.proofs.ReadLemmas.{Consumed-none, Consumed-then, Wants}
use Rattle.oas_num.proofs.MidwayLemmas.{Wants-itself, refused}
use Rattle.oas_num.proofs.GrammarLemmas.{there_fails}
use Rattle.oas_num.proofs.PieceLemmas.{fails_behind, first_fails, there_fails_in}

-- The fields so far were read. A spelling of the rest makes the whole, and where the rest goes wrong the whole does.
pub record Halfway {V W : Type 0} (spells : V → List ℕ → Type 0) (next : W → List ℕ → Type 0) (build : W → V) (took there : Why → List ℕ → Type 0) (old now : Script) : Type 0 where
  pub bytes : List ℕ
  pub takes : Consumed old bytes now
  pub wants : Wants spells bytes next
  pub makes : (w : W) (q : List ℕ) → next w q → spells (build w) (bytes ++ q)
  pub so : (why : Why) (last : List ℕ) → there why last → took why (bytes ++ last)

pub at_start : {V : Type 0} {A : V → List ℕ → Type 0} {took : Why → List ℕ → Type 0} (s : Script) → Halfway A A (λ v. v) took took s s
at_start {A = A} s = record { bytes = []; takes = Consumed-none s; wants = Wants-itself A; makes = λ w q h. h; so = λ why last h. h }

pub at_image : {U V : Type 0} {f : U → V} {A : U → List ℕ → Type 0} {took : Why → List ℕ → Type 0} (s : Script) → Halfway (IsImage f A) A f took took s s
at_image s = record {
  bytes = [];
  takes = Consumed-none s;
  wants = record { wants = λ v p r rest h e. (h.from, p, r, h.spelled, e) };
  makes = λ w q h. record { from = w; is = refl; spelled = h };
  so = λ why last h. h;
}

-- one more field was read
infixl 20 ◌▸◌
pub ◌▸◌ : {U V W : Type 0} {whole : U → List ℕ → Type 0} {A : V → List ℕ → Type 0} {B : V → W → List ℕ → Type 0} {build : V × W → U}
    {took first : Why → List ℕ → Type 0} {second : V → Why → List ℕ → Type 0} {old mid new : Script} {v : V}
    → Halfway whole (IsPair A B) build took (PairTook A first second) old mid → PrefixFree A × ReadsValue A mid v new → Halfway whole (B v) (λ w. build (v, w)) took (second v) old new
◌▸◌ {V = V} {B = B} {old = old} {mid = mid} {new = new} {v = v} m field =
    let law = field.0 in
    let read = field.1 in
    record {
      bytes = m.bytes ++ read.bytes;
      takes = Consumed-then old mid new m.bytes read.bytes m.takes read.takes;
      wants = record {
        wants = λ u p r rest s e.
            let w = m.wants.wants u p r (read.bytes ++ rest) s (e ∙ append_assoc m.bytes read.bytes rest) in
            let pair = w.3 in
            let joined : pair.front ++ (pair.back ++ w.2) ≡ read.bytes ++ rest = sym (append_assoc pair.front pair.back w.2) ∙ ap (λ (c : List ℕ). c ++ w.2) (sym pair.joined) ∙ w.4 in
            let one = law.one w.0.0 v pair.front read.bytes (pair.back ++ w.2) rest pair.first read.spelled joined in
            (w.0.1, pair.back, w.2, subst (λ (x : V). B x w.0.1 pair.back) one.1 pair.second, after_same pair.front read.bytes (pair.back ++ w.2) rest one.0 joined);
      };
      makes = λ w q h. rw append_assoc (m.makes (v, w) (read.bytes ++ q) (record { front = read.bytes; back = q; first = read.spelled; second = h; joined = refl }));
      so = λ why last h. rw append_assoc (m.so why (read.bytes ++ last) (inr (record { value = v; front = read.bytes; last = last; spelled = read.spelled; holds = h; joined = refl })));
    }

-- the rest fails, or the first of its fields
pub fails_last : {U V : Type 0} {whole : U → List ℕ → Type 0} {A : V → List ℕ → Type 0} {build : V → U} {took there : Why → List ℕ → Type 0} {old mid new : Script} {why : Why}
    → Halfway whole A build took there old mid → FailsPiece A there mid why new → FailsPiece whole took old why new
fails_last {whole = whole} {A = A} {why = why} m f = fails_behind whole A m.bytes (m.so why) m.takes m.wants f

pub fails_at : {U V W : Type 0} {whole : U → List ℕ → Type 0} {A : V → List ℕ → Type 0} {B : V → W → List ℕ → Type 0} {build : V × W → U}
    {took first : Why → List ℕ → Type 0} {second : V → Why → List ℕ → Type 0} {old mid new : Script} {why : Why}
    → Halfway whole (IsPair A B) build took (PairTook A first second) old mid → FailsPiece A first mid why new → FailsPiece whole took old why new
fails_at {first = first} {second = second} m f = fails_last m (first_fails {first = first} {second = second} f)

pub is_read : {U V : Type 0} {whole : U → List ℕ → Type 0} {A : V → List ℕ → Type 0} {build : V → U} {took there : Why → List ℕ → Type 0} {old mid new : Script} {v : V}
    → Halfway whole A build took there old mid → ReadsValue A mid v new → ReadsValue whole old (build v) new
is_read {old = old} {mid = mid} {new = new} {v = v} m read = record {
  bytes = m.bytes ++ read.bytes;
  spelled = m.makes v read.bytes read.spelled;
  takes = Consumed-then old mid new m.bytes read.bytes m.takes read.takes;
}

-- an optional field
pub there_took : {V : Type 0} {A : V → List ℕ → Type 0} {took : Why → List ℕ → Type 0} {old new : Script} {why : Why} (here : Bool) → IsTrue here
    → FailsPiece A took old why new → FailsPiece (IsThere here A) (ThereTook here took) old why new
there_took true is f = there_fails true is f
there_took false is f = absurd cc

-- a value that must meet a condition: its read fails
pub such_took : {V : Type 0} {P : V → Type 0} {A : V → List ℕ → Type 0} {took : Why → List ℕ → Type 0} {refuses : V → Why → Type 0} {old new : Script}
    {why : Why} → FailsPiece A took old why new → FailsPiece (IsSuch P A) (SuchTook A took refuses) old why new
such_took {P = P} {A = A} {old = old} f = fails_behind (IsSuch P A) A [] (λ _ h. inl h) (Consumed-none old) (record { wants = λ v p r rest s e. (v, p, r, s.spelled, e) }) f

pub by_format : {why : Why} (other : Why) → IsTrue (is_format why) → (IsTrue (is_format other) → ⊥) → why ≢ other
by_format other is isnt e = isnt (subst (λ (w : Why). IsTrue (is_format w)) e is)

-- or it is read, and refused
pub such_refused : {V : Type 0} {P : V → Type 0} {A : V → List ℕ → Type 0} {took : Why → List ℕ → Type 0} {refuses : V → Why → Type 0} {old new : Script} {why : Why} {v : V}
    → PrefixFree A → IsTrue (is_format why) → ¬ P v → refuses v why → ReadsValue A old v new → FailsPiece (IsSuch P A) (SuchTook A took refuses) old why new
such_refused {P = P} {A = A} {took = took} {refuses = refuses} {old = old} {new = new} {why = why} {v = v} law is isnt reason read =
    refused P A (SuchTook A took refuses) old new why v law read isnt (inr (v, read.spelled, reason)) (by_format Truncated is (λ h. cc))
    (by_format Read is (λ h. cc)) (by_format InputTooLong is (λ h. cc))

-- what a value denotes
pub image_took : {U V : Type 0} {f : U → V} {A : U → List ℕ → Type 0} {took : Why → List ℕ → Type 0} {old new : Script} {why : Why}
    → FailsPiece A took old why new → FailsPiece (IsImage f A) took old why new
image_took {old = old} g = fails_last (at_image old) g

-- ---- optional numbers

pub number_took : (there : Bool) {old new : Script} {why : Why} → FailsPiece (IsThere there IsUnsigned) IntegerMay old why new
    → FailsPiece (IsThere there IsUnsigned) (ThereTook there IntegerMay) old why new
number_took there f = there_fails_in IsUnsigned IntegerMay there (λ _ h. h) f

pub signed_took : (there : Bool) {old new : Script} {why : Why} → FailsPiece (IsThere there IsSigned) IntegerMay old why new
    → FailsPiece (IsThere there IsSigned) (ThereTook there IntegerMay) old why new
signed_took there f = there_fails_in IsSigned IntegerMay there (λ _ h. h) f
