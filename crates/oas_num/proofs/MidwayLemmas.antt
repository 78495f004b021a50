-- Reading fields one after another: where a read is, and what its failures mean for the whole.
use Rattle.std.proofs.Common.{◌≡◌, ◌≢◌, ℕ, ◌+◌, Bool, true, List, [], ◌++◌, IsTrue, refl, sym, ap, subst, ◌∙◌, append_assoc}
use Rattle.oas_num.specs.declared.refusals.Why.{Why}
use Rattle.oas_num.specs.declared.refusals.Why.TheVariants.{Truncated, Read, InputTooLong, Memory}
use Rattle.oas_num.specs.Script.{Script, Consumed}
use Rattle.oas_num.specs.Grammar.{PrefixFree, IsPair, IsSuch, IsImage}
use Rattle.oas_num.specs.Laws.GrammarLaws.{after_same}
use Rattle.oas_num.specs.Begun.{HasSome, Begins, Before}
use Rattle.oas_num.specs.Laws.BegunLaws.{HasSome-first, Before-begins, Before-as}
use Rattle.oas_num.specs.Reading.{ReadsValue, FailsBy, Fails, FailsPiece, is_cut}
use Rattle.oas_num.proofs.ReadLemmas.{Consumed-none, Consumed-then, Wants, Fails-after, Begins-after, Before-after}

-- The fields so far were read, and a spelling of the rest, which has one, makes the whole.
pub record Midway {V W : Type 0} (spells : V → List ℕ → Type 0) (next : W → List ℕ → Type 0) (build : W → V) (old now : Script) : Type 0 where
  pub bytes : List ℕ
  pub takes : Consumed old bytes now
  pub wants : Wants spells bytes next
  pub makes : (w : W) (q : List ℕ) → next w q → spells (build w) (bytes ++ q)
  pub some : HasSome next

module _ {V W : Type 0} (A : V → List ℕ → Type 0) (B : V → W → List ℕ → Type 0) where
  pub Wants-first : Wants (IsPair A B) [] A
  Wants-first = record { wants = λ v p r rest s e. (v.0, s.front, s.back ++ r, s.first, sym (append_assoc s.front s.back r) ∙ ap (λ (c : List ℕ). c ++ r) (sym s.joined) ∙ e) }

module _ {V : Type 0} (A : V → List ℕ → Type 0) where
  pub Wants-itself : Wants A [] A
  Wants-itself = record { wants = λ v p r rest s e. (v, p, r, s, e) }

  unfoldable pub begins : HasSome A → (s : Script) → Midway A A (λ v. v) s s
  begins some s = record { bytes = []; takes = Consumed-none s; wants = Wants-itself; makes = λ w q h. h; some = some }

-- the rest of a spelling after its first part
module _ {U V W : Type 0} (whole : U → List ℕ → Type 0) (A : V → List ℕ → Type 0) (B : V → W → List ℕ → Type 0) (build : V × W → U) where
  -- a field is read
  pub reads : (old mid new : Script) (v : V) → PrefixFree A → HasSome (B v) → Midway whole (IsPair A B) build old mid → ReadsValue A mid v new → Midway whole (B v) (λ w. build (v, w)) old new
  reads old mid new v law some m read = record {
    some = some;
    bytes = m.bytes ++ read.bytes;
    takes = Consumed-then old mid new m.bytes read.bytes m.takes read.takes;
    wants = record {
      wants = λ u p r rest s e.
          let w = m.wants.wants u p r (read.bytes ++ rest) s (e ∙ append_assoc m.bytes read.bytes rest) in
          let pair = w.3 in
          let joined : pair.front ++ (pair.back ++ w.2) ≡ read.bytes ++ rest = sym (append_assoc pair.front pair.back w.2) ∙ ap (λ (c : List ℕ). c ++ w.2) (sym pair.joined) ∙ w.4 in
          let one = law.one w.0.0 v pair.front read.bytes (pair.back ++ w.2) rest pair.first read.spelled joined in
          (w.0.1, pair.back, w.2, subst (λ (x : V). B x w.0.1 pair.back) one.1 pair.second, after_same pair.front read.bytes (pair.back ++ w.2) rest one.0 joined);
    };
    makes = λ w q h. rw append_assoc (m.makes (v, w) (read.bytes ++ q) (record { front = read.bytes; back = q; first = read.spelled; second = h; joined = refl }));
  }

  -- what begins a field begins the pair, where what follows it has a spelling
  pair_begun : ((v : V) → HasSome (B v)) → (a : List ℕ) → Begins A a → Begins (IsPair A B) a
  pair_begun somes a b =
      let more = somes b.value in
      record {
        value = (b.value, more.value);
        rest = b.rest ++ more.bytes;
        spelled = record { front = a ++ b.rest; back = more.bytes; first = b.spelled; second = more.spelled; joined = sym (append_assoc a b.rest more.bytes) };
      }

  none_begun : HasSome (IsPair A B) → (a : List ℕ) → Before true A a → Begins (IsPair A B) a
  none_begun some a none = Before-begins true (IsPair A B) some a none

  -- a field that isn't the last fails
  pub fails : {piece : Bool} (may there : Why → List ℕ → Type 0) (old mid new : Script) (why : Why)
      → ((last : List ℕ) → there why last → may why last) → ((a : List ℕ) → Before piece A a → Begins (IsPair A B) a)
      → Midway whole (IsPair A B) build old mid → FailsBy piece A there mid why new → Fails whole may old why new
  fails may there old mid new why allows begun m f =
      let g : Fails (IsPair A B) may mid why new = Fails-after (IsPair A B) A may there mid mid new why [] allows (Consumed-none mid) (Wants-first A B) begun f in
      Fails-after whole (IsPair A B) may may old mid new why m.bytes (λ _ x. x) m.takes m.wants (Begins-after whole (IsPair A B) m.bytes build m.makes) g

  -- a field of one piece
  pub fails_piece : (may there : Why → List ℕ → Type 0) (old mid new : Script) (why : Why) → ((last : List ℕ) → there why last → may why last)
      → Midway whole (IsPair A B) build old mid → FailsPiece A there mid why new → Fails whole may old why new
  fails_piece may there old mid new why allows m f = fails may there old mid new why allows (none_begun m.some) m f

  -- a field whose rest has a spelling for each of its values
  pub fails_some : {piece : Bool} (may there : Why → List ℕ → Type 0) (old mid new : Script) (why : Why) → ((v : V) → HasSome (B v))
      → ((last : List ℕ) → there why last → may why last) → Midway whole (IsPair A B) build old mid → FailsBy piece A there mid why new
      → Fails whole may old why new
  fails_some {piece} may there old mid new why somes allows m f =
      fails may there old mid new why allows (λ a h. pair_begun somes a (Before-begins piece A (HasSome-first A B m.some) a h)) m f

module _ {U V : Type 0} (whole : U → List ℕ → Type 0) (A : V → List ℕ → Type 0) (build : V → U) where
  -- the last field fails
  pub last_fails : {piece : Bool} (may there : Why → List ℕ → Type 0) (old mid new : Script) (why : Why)
      → ((last : List ℕ) → there why last → may why last) → Midway whole A build old mid → FailsBy piece A there mid why new
      → Fails whole may old why new
  last_fails {piece} may there old mid new why allows m f =
      Fails-after whole A may there old mid new why m.bytes allows m.takes m.wants (Before-after whole A m.bytes build m.makes piece m.some) f

  -- the last field is read
  pub ends : (old mid new : Script) (v : V) → Midway whole A build old mid → ReadsValue A mid v new → ReadsValue whole old (build v) new
  ends old mid new v so_far read = record {
    bytes = so_far.bytes ++ read.bytes;
    spelled = so_far.makes v read.bytes read.spelled;
    takes = Consumed-then old mid new so_far.bytes read.bytes so_far.takes read.takes;
  }

-- a value that denotes another
module _ {T U V : Type 0} (whole : T → List ℕ → Type 0) (f : U → V) (A : U → List ℕ → Type 0) (build : V → T) where
  pub seen : (old now : Script) → Midway whole (IsImage f A) build old now → Midway whole A (λ u. build (f u)) old now
  seen old now m = record {
    bytes = m.bytes;
    takes = m.takes;
    wants = record { wants = λ u p r rest s e. let w = m.wants.wants u p r rest s e in (w.3.from, w.1, w.2, w.3.spelled, w.4) };
    makes = λ u q h. m.makes (f u) q (record { from = u; is = refl; spelled = h });
    some = let some = m.some in record { value = some.spelled.from; bytes = some.bytes; spelled = some.spelled.spelled };
  }

-- what a value denotes fails with it
pub image_fails : {U V : Type 0} {A : U → List ℕ → Type 0} {may : Why → List ℕ → Type 0} {piece : Bool} {old new : Script} {why : Why} (f : U → V)
    → FailsBy piece A may old why new → FailsBy piece (IsImage f A) may old why new
image_fails {A = A} {may = may} {piece = piece} {old = old} {new = new} {why = why} f g =
    Fails-after (IsImage f A) A may may old old new why [] (λ _ h. h) (Consumed-none old) (record { wants = λ v p r rest s e. (s.from, p, r, s.spelled, e) })
    (Before-as piece A (IsImage f A) (λ a b. record { value = f b.value; rest = b.rest; spelled = record { from = b.value; is = refl; spelled = b.spelled } })) g

-- the other reasons depend on what was read, or on the memory
pub uncut : (why : Why) → why ≢ Truncated → why ≢ Read → why ≢ InputTooLong → ¬ IsTrue (is_cut why)
uncut Truncated a b c is = a refl
uncut Read a b c is = b refl
uncut InputTooLong a b c is = c refl
uncut _ a b c is = cc

-- a value that is refused, for a reason that its bytes show
module _ {V : Type 0} (P : V → Type 0) (A : V → List ℕ → Type 0) where
  pub refused : (may : Why → List ℕ → Type 0) (old new : Script) (why : Why) (v : V) → PrefixFree A → (read : ReadsValue A old v new) → ¬ P v → may why read.bytes
      → why ≢ Truncated → why ≢ Read → why ≢ InputTooLong → FailsPiece (IsSuch P A) may old why new
  refused may old new why v law read isnt reason a b c = record {
    bytes = read.bytes;
    takes = read.takes;
    reason = record { front = []; last = read.bytes; joined = refl; begun = refl; holds = reason };
    format = λ _. record { none = λ w p r more s e. let one = law.one w v p read.bytes r more s.spelled read.spelled e in isnt (subst P one.1 s.holds) };
    cut = λ is. absurd (uncut why a b c is);
    truncated = λ is. absurd (a is);
    device = λ is. absurd (b is);
    too_long = λ is. absurd (c is);
  }

-- out of memory for what was read last
pub no_memory : {V : Type 0} (A : V → List ℕ → Type 0) (may : Why → List ℕ → Type 0) (old new : Script) (front last : List ℕ) → Begins A front
    → may Memory last → Consumed old (front ++ last) new → Fails A may old Memory new
no_memory A may old new front last begun allows takes = record {
  bytes = front ++ last;
  takes = takes;
  reason = record { front = front; last = last; joined = refl; begun = begun; holds = allows };
  format = λ is. absurd cc;
  cut = λ is. absurd cc;
  truncated = λ is. absurd cc;
  device = λ is. absurd cc;
  too_long = λ is. absurd cc;
}
