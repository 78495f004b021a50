-- Reading lists of items, and steps of a read without what the facts show.
use Rattle.std.proofs.Common.{◌≡◌, ℕ, ◌+◌, zero, suc, Bool, true, false, List, [], ◌∷◌, ◌++◌, length, Option, Some, None, IsTrue, ◌<◌, refl, sym, ap, subst, ◌∙◌, append_assoc, arith}
use Rattle.std.proofs.lemmas.List.{append-nil, length-append}
use Rattle.oas_num.specs.declared.refusals.Why.{Why}
use Rattle.oas_num.specs.Script.{Script, Consumed}
use Rattle.oas_num.specs.Grammar.{PrefixFree, IsPair, IsSuch, IsThere, IsEach, IsCount}
use Rattle.oas_num.specs.Laws.GrammarLaws.{after_same}
use Rattle.oas_num.specs.Combinators.{IsKeyed}
use Rattle.oas_num.specs.Begun.{HasSome, Begins, Before}
use Rattle.oas_num.specs.Laws.BegunLaws.{HasSome-second_of, HasSome-count, Before-as}
use Rattle.oas_num.specs.Reading.{ReadsValue, FailsBy, Fails, FailsPiece}
use Rattle.oas_num.proofs.ReadLemmas.{Consumed-none, Consumed-then, Wants, Fails-after}
use Rattle.oas_num.proofs.MidwayLemmas.{Midway, begins, reads, fails, fails_some, last_fails, ends}

-- these items were read
pub record Listed {V : Type 0} (A : V → List ℕ → Type 0) (old now : Script) (vs : List V) : Type 0 where
  pub bytes : List ℕ
  pub takes : Consumed old bytes now
  pub each : IsEach A vs bytes

module _ {V : Type 0} (A : V → List ℕ → Type 0) where
  -- one more item
  pub IsEach-push : (vs : List V) (v : V) (a b : List ℕ) → IsEach A vs a → A v b → IsEach A (vs ++ v ∷ []) (a ++ b)
  IsEach-push [] v a b each one = (b, [], one, refl, ap (λ (c : List ℕ). c ++ b) each ∙ sym (append-nil b))
  IsEach-push (w ∷ vs) v a b each one =
      (each.0, each.1 ++ b, each.2, IsEach-push vs v each.1 b each.3 one, ap (λ (c : List ℕ). c ++ b) each.4 ∙ append_assoc each.0 each.1 b)

  pub listed_none : (s : Script) → Listed A s s []
  listed_none s = record { bytes = []; takes = Consumed-none s; each = refl }

  pub listed_more : (old mid new : Script) (vs : List V) (v : V) → Listed A old mid vs → ReadsValue A mid v new → Listed A old new (vs ++ v ∷ [])
  listed_more old mid new vs v l read = record {
    bytes = l.bytes ++ read.bytes;
    takes = Consumed-then old mid new l.bytes read.bytes l.takes read.takes;
    each = IsEach-push vs v l.bytes read.bytes l.each read.spelled;
  }

  -- more items were spelled than were read
  each_wants : PrefixFree A → (vs ws : List V) (a p r rest : List ℕ) → length vs < length ws → IsEach A vs a → IsEach A ws p → p ++ r ≡ a ++ rest
      → (w : V) × (q : List ℕ) × (more : List ℕ) × A w q × (q ++ more ≡ rest)
  each_wants law [] [] a p r rest lt e f same = absurd (omega arith)
  each_wants law [] (w ∷ ws) a p r rest lt e f same =
      (w, f.0, f.1 ++ r, f.2, sym (append_assoc f.0 f.1 r) ∙ ap (λ (c : List ℕ). c ++ r) (sym f.4) ∙ same ∙ ap (λ (c : List ℕ). c ++ rest) e)
  each_wants law (v ∷ vs) [] a p r rest lt e f same = absurd (omega arith)
  each_wants law (v ∷ vs) (w ∷ ws) a p r rest lt e f same =
      let joined : f.0 ++ (f.1 ++ r) ≡ e.0 ++ (e.1 ++ rest) =
      sym (append_assoc f.0 f.1 r) ∙ ap (λ (c : List ℕ). c ++ r) (sym f.4) ∙ same ∙ ap (λ (c : List ℕ). c ++ rest) e.4 ∙ append_assoc e.0 e.1 rest in
      let one = law.one w v f.0 e.0 (f.1 ++ r) (e.1 ++ rest) f.2 e.2 joined in
      each_wants law vs ws e.1 f.1 r rest (omega arith) e.3 f.3 (after_same f.0 e.0 (f.1 ++ r) (e.1 ++ rest) one.0 joined)

  IsEach-join : (vs ws : List V) (a b : List ℕ) → IsEach A vs a → IsEach A ws b → IsEach A (vs ++ ws) (a ++ b)
  IsEach-join [] ws a b each more = subst (λ (c : List ℕ). IsEach A ws (c ++ b)) (sym each) more
  IsEach-join (v ∷ vs) ws a b each more =
      (each.0, each.1 ++ b, each.2, IsEach-join vs ws each.1 b each.3 more, ap (λ (c : List ℕ). c ++ b) each.4 ∙ append_assoc each.0 each.1 b)

-- how many are missing after one more
missing : (n m : ℕ) → n < m → (k : ℕ) × (m ≡ n + suc k)
missing zero zero lt = absurd (omega arith)
missing zero (suc m) lt = (m, omega arith)
missing (suc n) zero lt = absurd (omega arith)
missing (suc n) (suc m) lt = let k = missing n m (omega arith) in (k.0, omega (arith, k.1))

-- this many items
module _ {V : Type 0} (A : V → List ℕ → Type 0) (count : ℕ) where
  -- the items that are still missing are spelled like the one that was begun
  pub count_begun : (vs : List V) (front a : List ℕ) → length vs < count → IsEach A vs front → Begins A a → Begins (IsCount A count) (front ++ a)
  count_begun vs front a lt each b =
      let left = missing (length vs) count lt in
      let more = HasSome-count A left.0 (record { value = b.value; bytes = a ++ b.rest; spelled = b.spelled }) in
      let joined : (front ++ a) ++ (b.rest ++ more.bytes) ≡ front ++ ((a ++ b.rest) ++ more.bytes) =
      append_assoc front a (b.rest ++ more.bytes) ∙ ap (λ (c : List ℕ). front ++ c) (sym (append_assoc a b.rest more.bytes)) in
      let items : List V = vs ++ b.value ∷ more.value in
      let all : IsEach A items (front ++ ((a ++ b.rest) ++ more.bytes)) =
      IsEach-join A vs (b.value ∷ more.value) front ((a ++ b.rest) ++ more.bytes) each (a ++ b.rest, more.bytes, b.spelled, more.spelled.each, refl) in
      record {
        value = items;
        rest = b.rest ++ more.bytes;
        spelled = record { len = omega (arith, length-append vs (b.value ∷ more.value), more.spelled.len, left.1); each = subst (λ (c : List ℕ). IsEach A items c) (sym joined) all };
      }

  -- after items, fewer than expected, another is expected
  pub listed_wants : {old now : Script} {vs : List V} → PrefixFree A → (l : Listed A old now vs) → length vs < count → Wants (IsCount A count) l.bytes A
  listed_wants {vs = vs} law l lt = record { wants = λ x p r rest s e. each_wants A law vs x l.bytes p r rest (omega (arith, s.len, lt)) l.each s.each e }

  pub listed_all : (old new : Script) (vs : List V) → length vs ≡ count → Listed A old new vs → ReadsValue (IsCount A count) old vs new
  listed_all old new vs len l = record { bytes = l.bytes; spelled = record { len = len; each = l.each }; takes = l.takes }

-- The same, without what the facts show. First where what follows a field doesn't depend on its value.
infixl 20 ◌▸◌
pub ◌▸◌ : {U V W : Type 0} {whole : U → List ℕ → Type 0} {A : V → List ℕ → Type 0} {B : W → List ℕ → Type 0} {build : V × W → U} {old mid new : Script} {v : V}
    → Midway whole (IsPair A (λ (_ : V). B)) build old mid → PrefixFree A × ReadsValue A mid v new → Midway whole B (λ w. build (v, w)) old new
◌▸◌ {whole = whole} {A = A} {B = B} {build = build} {old = old} {mid = mid} {new = new} {v = v} m read = reads whole A (λ _. B) build old mid new v read.0 (HasSome-second_of A B m.some) m read.1

pub fails_at : {U V W : Type 0} {whole : U → List ℕ → Type 0} {A : V → List ℕ → Type 0} {B : W → List ℕ → Type 0} {build : V × W → U} {piece : Bool}
    {old mid new : Script} {may there : Why → List ℕ → Type 0} {why : Why}
    → Midway whole (IsPair A (λ (_ : V). B)) build old mid → ((why : Why) (last : List ℕ) → there why last → may why last) → FailsBy piece A there mid why new → Fails whole may old why new
fails_at {whole = whole} {A = A} {B = B} {build = build} {old = old} {mid = mid} {new = new} {may = may} {there = there} {why = why} m allows f =
    fails_some whole A (λ _. B) build may there old mid new why (λ _. HasSome-second_of A B m.some) (allows why) m f

-- Then where it may: what follows is spelled for the value that was read, or for each value, or the field is one piece.
infixl 20 ◌▹◌
pub ◌▹◌ : {U V W : Type 0} {whole : U → List ℕ → Type 0} {A : V → List ℕ → Type 0} {B : V → W → List ℕ → Type 0} {build : V × W → U} {old mid new : Script} {v : V}
    → Midway whole (IsPair A B) build old mid → PrefixFree A × HasSome (B v) × ReadsValue A mid v new → Midway whole (B v) (λ w. build (v, w)) old new
◌▹◌ {whole = whole} {A = A} {B = B} {build = build} {old = old} {mid = mid} {new = new} {v = v} m read = reads whole A B build old mid new v read.0 read.1 m read.2

pub fails_last : {U V : Type 0} {whole : U → List ℕ → Type 0} {A : V → List ℕ → Type 0} {build : V → U} {piece : Bool} {old mid new : Script} {may there : Why → List ℕ → Type 0} {why : Why}
    → Midway whole A build old mid → ((why : Why) (last : List ℕ) → there why last → may why last) → FailsBy piece A there mid why new → Fails whole may old why new
fails_last {whole = whole} {A = A} {build = build} {old = old} {mid = mid} {new = new} {may = may} {there = there} {why = why} m allows f =
    last_fails whole A build may there old mid new why (allows why) m f

pub is_read : {U V : Type 0} {whole : U → List ℕ → Type 0} {A : V → List ℕ → Type 0} {build : V → U} {old mid new : Script} {v : V}
    → Midway whole A build old mid → ReadsValue A mid v new → ReadsValue whole old (build v) new
is_read {whole = whole} {A = A} {build = build} {old = old} {mid = mid} {new = new} {v = v} m read = ends whole A build old mid new v m read

-- a value that meets a condition
module _ {V : Type 0} (P : V → Type 0) (A : V → List ℕ → Type 0) where
  unfoldable pub such_read : (old new : Script) (v : V) → P v → ReadsValue A old v new → ReadsValue (IsSuch P A) old v new
  such_read old new v holds read = record { bytes = read.bytes; spelled = record { holds = holds; spelled = read.spelled }; takes = read.takes }

  pub such_fails : (may : Why → List ℕ → Type 0) (old new : Script) (why : Why) → FailsPiece A may old why new → FailsPiece (IsSuch P A) may old why new
  such_fails may old new why f =
      Fails-after (IsSuch P A) A may may old old new why [] (λ _ h. h) (Consumed-none old) (record { wants = λ v p r rest s e. (v, p, r, s.spelled, e) }) (λ _ h. h) f

  pub such_fails_by : (may there : Why → List ℕ → Type 0) (old new : Script) (why : Why)
      → ((why : Why) (last : List ℕ) → there why last → may why last) → FailsPiece A there old why new → FailsPiece (IsSuch P A) may old why new
  such_fails_by may there old new why allows f =
      Fails-after (IsSuch P A) A may there old old new why [] (allows why) (Consumed-none old) (record { wants = λ v p r rest s e. (v, p, r, s.spelled, e) }) (λ _ h. h) f

  -- where what begins a value begins one that meets it
  pub such_fails_begun : (may there : Why → List ℕ → Type 0) (old new : Script) (why : Why)
      → ((why : Why) (last : List ℕ) → there why last → may why last) → ((a : List ℕ) → Begins A a → Begins (IsSuch P A) a)
      → Fails A there old why new → Fails (IsSuch P A) may old why new
  such_fails_begun may there old new why allows begun f =
      Fails-after (IsSuch P A) A may there old old new why [] (allows why) (Consumed-none old) (record { wants = λ v p r rest s e. (v, p, r, s.spelled, e) }) begun f

-- a value in a wrapper
pub wrapped_read : {W V : Type 0} {A : V → List ℕ → Type 0} {old new : Script} {w : W} (of : W → V) → ReadsValue A old (of w) new → ReadsValue (λ u bytes. A (of u) bytes) old w new
wrapped_read of read = record { bytes = read.bytes; spelled = read.spelled; takes = read.takes }

pub wrapped_fails : {W V : Type 0} {A : V → List ℕ → Type 0} {may : Why → List ℕ → Type 0} {old new : Script} {why : Why} (of : W → V)
    → FailsPiece A may old why new → FailsPiece (λ (u : W) bytes. A (of u) bytes) may old why new
wrapped_fails {A = A} {may = may} {old = old} {new = new} {why = why} of f =
    Fails-after (λ u bytes. A (of u) bytes) A may may old old new why [] (λ _ h. h) (Consumed-none old) (record { wants = λ v p r rest s e. (of v, p, r, s, e) }) (λ _ none. none) f

-- a value that is keyed by what is read before it, like a string by its length
module _ {K V T : Type 0} (whole : T → List ℕ → Type 0) (key : V → K) (A : K → List ℕ → Type 0) (B : K → V → List ℕ → Type 0) (build : V → T) where
  -- the key is read
  unfoldable pub key_read : (old mid new : Script) (k : K) → PrefixFree A → ((v : V) (q : List ℕ) → B k v q → key v ≡ k) → HasSome (B k)
      → Midway whole (IsKeyed key A B) build old mid → ReadsValue A mid k new → Midway whole (B k) build old new
  key_read old mid new k law keys some m read = record {
    some = some;
    bytes = m.bytes ++ read.bytes;
    takes = Consumed-then old mid new m.bytes read.bytes m.takes read.takes;
    wants = record {
      wants = λ u p r rest s e.
          let w = m.wants.wants u p r (read.bytes ++ rest) s (e ∙ append_assoc m.bytes read.bytes rest) in
          let pair = w.3 in
          let joined : pair.front ++ (pair.back ++ w.2) ≡ read.bytes ++ rest = sym (append_assoc pair.front pair.back w.2) ∙ ap (λ (c : List ℕ). c ++ w.2) (sym pair.joined) ∙ w.4 in
          let one = law.one (key w.0) k pair.front read.bytes (pair.back ++ w.2) rest pair.first read.spelled joined in
          (w.0, pair.back, w.2, subst (λ (x : K). B x w.0 pair.back) one.1 pair.second, after_same pair.front read.bytes (pair.back ++ w.2) rest one.0 joined);
    };
    makes = λ v q h.
        let same = sym (keys v q h) in
        rw append_assoc (m.makes v (read.bytes ++ q) (record {
          front = read.bytes;
          back = q;
          first = subst (λ (x : K). A x read.bytes) same read.spelled;
          second = subst (λ (x : K). B x v q) same h;
          joined = refl;
        }));
  }

  -- the key fails
  pub key_fails : (may there : Why → List ℕ → Type 0) (old mid new : Script) (why : Why)
      → ((why : Why) (last : List ℕ) → there why last → may why last) → Midway whole (IsKeyed key A B) build old mid → FailsPiece A there mid why new
      → Fails whole may old why new
  key_fails may there old mid new why allows m f =
      let first : Wants (IsKeyed key A B) [] A = record {
        wants =
            λ v p r rest s e. (
              key v,
              s.front,
              s.back ++ r,
              s.first,
              sym (append_assoc s.front s.back r) ∙ ap (λ (c : List ℕ). c ++ r) (sym s.joined) ∙ e,
            );
      } in
      let g : FailsPiece (IsKeyed key A B) may mid why new = Fails-after (IsKeyed key A B) A may there mid mid new why [] (allows why) (Consumed-none mid) first (λ _ h. h) f in
      last_fails whole (IsKeyed key A B) build may may old mid new why (λ _ x. x) m g

-- an optional field
there_wants : {V : Type 0} (A : V → List ℕ → Type 0) (v : Option V) (p r rest : List ℕ) → IsThere true A v p → p ++ r ≡ rest → (w : V) × (q : List ℕ) × (more : List ℕ) × A w q × (q ++ more ≡ rest)
there_wants A (Some v) p r rest s e = (v, p, r, s, e)
there_wants A None p r rest s e = absurd s

pub there_fails : {V : Type 0} {A : V → List ℕ → Type 0} {may : Why → List ℕ → Type 0} {piece : Bool} {old new : Script} {why : Why} (there : Bool)
    → IsTrue there → FailsBy piece A may old why new → FailsBy piece (IsThere there A) may old why new
there_fails {A = A} {may = may} {piece = piece} {old = old} {new = new} {why = why} true is f =
    Fails-after (IsThere true A) A may may old old new why [] (λ _ h. h) (Consumed-none old) (record { wants = λ v p r rest s e. there_wants A v p r rest s e })
    (Before-as piece A (IsThere true A) (λ a b. record { value = Some b.value; rest = b.rest; spelled = b.spelled })) f
there_fails false is f = absurd cc
