-- Files of one kind: a head, then items, then an end, the last two as the head says. How two prefixes of one file compare, how
-- a file goes on after a prefix of it, and what it begins with.
use Rattle.std.proofs.Common.{◌≡◌, ℕ, List, [], ◌∷◌, ◌++◌, reverse, refl, sym, ap, subst, ◌∙◌, append_assoc}
use Rattle.std.proofs.lemmas.List.{append-nil, append_cancel_left, reverse-append}
use Rattle.oas_num.specs.Grammar.{PrefixFree, IsPair, IsImage, IsEach}
use Rattle.oas_num.specs.Combinators.{IsExactly, IsApart}
use Rattle.oas_num.specs.Laws.GrammarLaws.{after_same}
use Rattle.oas_num.proofs.GrammarLemmas.{IsEach-push}
use Rattle.oas_num.proofs.ReadLemmas.{Wants}

-- ---- spellings of the same bytes

-- a spelling that goes on as a spelling doesn't go on
pub whole_one : {V : Type 0} {A : V → List ℕ → Type 0} → PrefixFree A → (v w : V) (a b rest : List ℕ) → A v a → A w b → a ++ rest ≡ b → (v ≡ w) × (rest ≡ [])
whole_one law v w a b rest p q e =
    let joined : a ++ rest ≡ b ++ [] = e ∙ sym (append-nil b) in
    let one = law.one v w a b rest [] p q joined in
    (one.1, after_same a b rest [] one.0 joined)

-- a pair, and what follows it
pub pair_then : {V W : Type 0} {A : V → List ℕ → Type 0} {B : V → W → List ℕ → Type 0} {both : V × W} {bytes : List ℕ} (p : IsPair A B both bytes) (rest : List ℕ) → bytes ++ rest ≡ p.front ++ (p.back ++ rest)
pair_then p rest = ap (λ (c : List ℕ). c ++ rest) p.joined ∙ append_assoc p.front p.back rest

module _ {V : Type 0} (A : V → List ℕ → Type 0) where
  -- the values are the same, or one list goes on with a value where the other has ended
  pub data Compared (vs ws : List V) (left right : List ℕ) : Type 0 where
    Same : vs ≡ ws → left ≡ right → Compared vs ws left right
    More : (v : V) (tail : List V) (front rest : List ℕ) → ws ≡ (vs ++ v ∷ []) ++ tail → A v front → left ≡ front ++ rest → Compared vs ws left right
    Less : (v : V) (tail : List V) (front rest : List ℕ) → vs ≡ (ws ++ v ∷ []) ++ tail → A v front → right ≡ front ++ rest → Compared vs ws left right

  compared_more : (v w : V) (vs ws : List V) (left right : List ℕ) → v ≡ w → Compared vs ws left right → Compared (v ∷ vs) (w ∷ ws) left right
  compared_more v w vs ws left right e (Same same lefts) = Same (λ i. e i ∷ same i) lefts
  compared_more v w vs ws left right e (More u tail front rest is one stands) = More u tail front rest (λ i. sym e i ∷ is i) one stands
  compared_more v w vs ws left right e (Less u tail front rest is one stands) = Less u tail front rest (λ i. e i ∷ is i) one stands

  pub compare : PrefixFree A → (vs ws : List V) (a b left right : List ℕ) → IsEach A vs a → IsEach A ws b → a ++ left ≡ b ++ right → Compared vs ws left right
  compare law [] [] a b left right p q e = Same refl (after_same a b left right (p ∙ sym q) e)
  compare law [] (w ∷ ws) a b left right p q e =
      More w ws q.0 (q.1 ++ right) refl q.2 (ap (λ (c : List ℕ). c ++ left) (sym p) ∙ e ∙ ap (λ (c : List ℕ). c ++ right) q.4 ∙ append_assoc q.0 q.1 right)
  compare law (v ∷ vs) [] a b left right p q e =
      Less v vs p.0 (p.1 ++ left) refl p.2 (ap (λ (c : List ℕ). c ++ right) (sym q) ∙ sym e ∙ ap (λ (c : List ℕ). c ++ left) p.4 ∙ append_assoc p.0 p.1 left)
  compare law (v ∷ vs) (w ∷ ws) a b left right p q e =
      let e1 : p.0 ++ (p.1 ++ left) ≡ q.0 ++ (q.1 ++ right) =
      sym (append_assoc p.0 p.1 left) ∙ ap (λ (c : List ℕ). c ++ left) (sym p.4) ∙ e ∙ ap (λ (c : List ℕ). c ++ right) q.4 ∙ append_assoc q.0 q.1 right in
      let one = law.one v w p.0 q.0 (p.1 ++ left) (q.1 ++ right) p.2 q.2 e1 in
      compared_more v w vs ws left right one.1 (compare law vs ws p.1 q.1 left right p.3 q.3 (after_same p.0 q.0 (p.1 ++ left) (q.1 ++ right) one.0 e1))

-- ---- what holds of each item after those before it

-- P is about a list that has the last item first, N about such a list and the next item
module _ {V : Type 0} (P : List V → Type 0) (N : List V → V → Type 0) (splits : (v : V) (vs : List V) → P (v ∷ vs) → P vs × N vs v) (joins : (v : V) (vs : List V) → P vs → N vs v → P (v ∷ vs)) where
  before : (vs ws : List V) → P (vs ++ ws) → P ws
  before [] ws all = all
  before (v ∷ vs) ws all = before vs ws (splits v (vs ++ ws) all).0

  -- it holds of the first of them
  pub all_prefix : (vs ws : List V) → P (reverse (vs ++ ws)) → P (reverse vs)
  all_prefix vs ws all = before (reverse ws) (reverse vs) (subst P (reverse-append vs ws) all)

  -- of the last after the others
  pub all_last : (vs : List V) (v : V) → P (reverse (vs ++ v ∷ [])) → N (reverse vs) v
  all_last vs v all = (splits v (reverse vs) (subst P (reverse-append vs (v ∷ [])) all)).1

  -- and of one more
  pub all_more : (vs : List V) (v : V) → P (reverse vs) → N (reverse vs) v → P (reverse (vs ++ v ∷ []))
  all_more vs v all next = subst P (sym (reverse-append vs (v ∷ []))) (joins v (reverse vs) all next)

-- ---- files

module _ {H V : Type 0} (head_in : H → List ℕ → Type 0) (item_in : H → V → List ℕ → Type 0) where
  -- a head and items
  abbrev pub IsFront : H × List V → List ℕ → Type 0
  IsFront = IsPair head_in (λ head. IsEach (item_in head))

  -- two prefixes of the same bytes have one head, and items that compare
  pub record Fronts (head first : H) (vs ws : List V) (left right : List ℕ) : Type 0 where
    pub heads : head ≡ first
    pub items : Compared (item_in head) vs ws left right

  module _ {E : Type 0} (end_in : H → E → List ℕ → Type 0) where
    -- and an end
    abbrev pub IsFile : H × (List V × E) → List ℕ → Type 0
    IsFile = IsPair head_in (λ head. IsPair (IsEach (item_in head)) (λ _. end_in head))

    -- no head is a prefix of another, and no item, and none begins as an end does
    pub record AreParts : Type 0 where
      pub head : PrefixFree head_in
      pub item : (head : H) → PrefixFree (item_in head)
      pub apart : (head : H) → IsApart (item_in head) (end_in head)

    -- what comes in a file after a prefix of it: another of its items, or its end
    pub data Follows (head : H) (vs ws : List V) (end : E) (last left tail : List ℕ) : Type 0 where
      ByItem : (v : V) (more : List V) (front rest : List ℕ) → ws ≡ (vs ++ v ∷ []) ++ more → item_in head v front → left ≡ front ++ rest → Follows head vs ws end last left tail
      ByEnd : vs ≡ ws → end_in head end last → left ≡ last ++ tail → Follows head vs ws end last left tail

    -- with the same head
    pub record GoesOn (head first : H) (vs ws : List V) (end : E) (last left tail : List ℕ) : Type 0 where
      pub heads : head ≡ first
      pub follows : Follows head vs ws end last left tail

module _ {H V E : Type 0} {head_in : H → List ℕ → Type 0} {item_in : H → V → List ℕ → Type 0} {end_in : H → E → List ℕ → Type 0} (law : AreParts head_in item_in end_in) where
  -- ---- prefixes

  pub front_none : {head : H} (bytes : List ℕ) → head_in head bytes → IsFront head_in item_in (head, []) bytes
  front_none bytes h = record { front = bytes; back = []; first = h; second = refl; joined = sym (append-nil bytes) }

  -- one more item
  pub front_push : {head : H} {vs : List V} {a : List ℕ} (v : V) (b : List ℕ) → IsFront head_in item_in (head, vs) a → item_in head v b → IsFront head_in item_in (head, vs ++ v ∷ []) (a ++ b)
  front_push {head = head} {vs = vs} v b f one = record {
    front = f.front;
    back = f.back ++ b;
    first = f.first;
    second = IsEach-push (item_in head) vs v f.back b f.second one;
    joined = pair_then f b;
  }

  -- a file is a prefix, and an end
  pub file_all : {head : H} {vs : List V} {bytes : List ℕ} (end : E) (last : List ℕ) → IsFront head_in item_in (head, vs) bytes → end_in head end last → IsFile head_in item_in end_in (head, (vs, end)) (bytes ++ last)
  file_all end last f e = record {
    front = f.front;
    back = f.back ++ last;
    first = f.first;
    second = record { front = f.back; back = last; first = f.second; second = e; joined = refl };
    joined = pair_then f last;
  }

  module _ {both : H × (List V × E)} {bytes : List ℕ} (s : IsFile head_in item_in end_in both bytes) where
    abbrev pub file_before : List ℕ
    file_before = s.front ++ s.second.front

    pub file_front : IsFront head_in item_in (both.0, both.1.0) file_before
    file_front = record { front = s.front; back = s.second.front; first = s.first; second = s.second.first; joined = refl }

    pub file_joined : bytes ≡ file_before ++ s.second.back
    file_joined = s.joined ∙ ap (λ (c : List ℕ). s.front ++ c) s.second.joined ∙ sym (append_assoc s.front s.second.front s.second.back)

  -- ---- how they compare

  pub fronts : {head first : H} {vs ws : List V} {one other : List ℕ} (left right : List ℕ) → IsFront head_in item_in (head, vs) one → IsFront head_in item_in (first, ws) other → one ++ left ≡ other ++ right →
      Fronts head_in item_in head first vs ws left right
  fronts {head = head} {first = first} {vs = vs} {ws = ws} left right f g e =
      let e1 : f.front ++ (f.back ++ left) ≡ g.front ++ (g.back ++ right) = sym (pair_then f left) ∙ e ∙ pair_then g right in
      let one = law.head.one head first f.front g.front (f.back ++ left) (g.back ++ right) f.first g.first e1 in
      record {
        heads = one.1;
        items = compare (item_in head) (law.item head) vs ws f.back g.back left right f.second (subst (λ (h : H). IsEach (item_in h) ws g.back) (sym one.1) g.second)
            (after_same f.front g.front (f.back ++ left) (g.back ++ right) one.0 e1);
      }

  -- ---- how a file goes on

  pub goes_on : {head first : H} {vs ws : List V} {one other : List ℕ} (end : E) (last left tail : List ℕ) → IsFront head_in item_in (head, vs) one → IsFront head_in item_in (first, ws) other → end_in first end last →
      one ++ left ≡ other ++ (last ++ tail) → GoesOn head_in item_in end_in head first vs ws end last left tail
  goes_on {head = head} {first = first} {vs = vs} {ws = ws} end last left tail f g ended e = record { heads = both.heads; follows = by both.items } where
    both : Fronts head_in item_in head first vs ws left (last ++ tail)
    both = fronts left (last ++ tail) f g e

    there : end_in head end last
    there = subst (λ (h : H). end_in h end last) (sym both.heads) ended

    by : Compared (item_in head) vs ws left (last ++ tail) → Follows head_in item_in end_in head vs ws end last left tail
    by (Same same lefts) = ByEnd same there lefts
    by (More v more front rest is one stands) = ByItem v more front rest is one stands
    by (Less v more front rest is one stands) = absurd ((law.apart head).apart v end front last rest tail one there (sym stands))

  pub file_goes_on : {head : H} {vs : List V} {both : H × (List V × E)} {one bytes : List ℕ} (left tail : List ℕ) → IsFront head_in item_in (head, vs) one → (s : IsFile head_in item_in end_in both bytes) → bytes ++ tail ≡ one ++ left →
      GoesOn head_in item_in end_in head both.0 vs both.1.0 both.1.1 s.second.back left tail
  file_goes_on {both = both} left tail f s e =
      goes_on both.1.1 s.second.back left tail f (file_front s) s.second.second (sym e ∙ ap (λ (c : List ℕ). c ++ tail) (file_joined s) ∙ append_assoc (file_before s) s.second.back tail)

  -- where items and ends begin with spellings of another kind, one of these comes after a prefix
  pub file_wants : {W : Type 0} (next : H → W → List ℕ → Type 0)
      → ((head : H) (v : V) (a rest : List ℕ) → item_in head v a → (w : W) × (q : List ℕ) × (more : List ℕ) × next head w q × (q ++ more ≡ a ++ rest))
      → ((head : H) (end : E) (a rest : List ℕ) → end_in head end a → (w : W) × (q : List ℕ) × (more : List ℕ) × next head w q × (q ++ more ≡ a ++ rest)) →
      {head : H} {vs : List V} {bytes : List ℕ} → IsFront head_in item_in (head, vs) bytes → Wants (IsFile head_in item_in end_in) bytes (next head)
  file_wants {W = W} next by_item by_end {head = head} {vs = vs} {bytes = bytes} f = record { wants = λ both p r rest s e. here (file_goes_on rest r f s e).follows } where
    here : {ws : List V} {end : E} {last left tail : List ℕ} → Follows head_in item_in end_in head vs ws end last left tail → (w : W) × (q : List ℕ) × (more : List ℕ) × next head w q × (q ++ more ≡ left)
    here (ByItem v more front rest is one stands) = let w = by_item head v front rest one in (w.0, w.1, w.2, w.3, w.4 ∙ sym stands)
    here {end = end} {last = last} {tail = tail} (ByEnd same there stands) = let w = by_end head end last tail there in (w.0, w.1, w.2, w.3, w.4 ∙ sym stands)

  -- what holds of all items, and so of the first of them, holds of those of a prefix
  pub prefix_all : (P : List V → Type 0) → ((vs ws : List V) → P (vs ++ ws) → P vs) → {head : H} {vs : List V} {both : H × (List V × E)} {bytes : List ℕ} (more : List ℕ) →
      IsFront head_in item_in (head, vs) bytes → IsFile head_in item_in end_in both (bytes ++ more) → P both.1.0 → P vs
  prefix_all P first {head = head} {vs = vs} {both = both} {bytes = bytes} more f s all = by (file_goes_on more [] f s (append-nil (bytes ++ more))).follows where
    by : Follows head_in item_in end_in head vs both.1.0 both.1.1 s.second.back more [] → P vs
    by (ByItem v tail front rest is one stands) = first vs (v ∷ tail) (subst P (is ∙ append_assoc vs (v ∷ []) tail) all)
    by (ByEnd same there stands) = subst P (sym same) all

-- ---- what comes first

module _ {S : Type 0} (magic : List ℕ) (start_in : S → List ℕ → Type 0) where
  abbrev after_magic : Unit {0} × S → S
  after_magic p = p.1

  -- the magic and START
  abbrev pub IsHead : S → List ℕ → Type 0
  IsHead = IsImage after_magic (IsPair (IsExactly magic) (λ _. start_in))

  -- the bytes begin with them
  pub record Opens (start : S) (bytes : List ℕ) : Type 0 where
    pub front : List ℕ
    pub rest : List ℕ
    pub spelled : start_in start front
    pub joined : bytes ≡ magic ++ (front ++ rest)

  pub head_opens : {start : S} {front : List ℕ} (left : List ℕ) → IsHead start front → Opens start (front ++ left)
  head_opens left h =
      let s = h.spelled in
      record {
        front = s.back;
        rest = left;
        spelled = subst (λ (start : S). start_in start s.back) h.is s.second;
        joined = pair_then s left ∙ ap (λ (c : List ℕ). c ++ (s.back ++ left)) s.first;
      }

  module _ {W : Type 0} {then : S → W → List ℕ → Type 0} where
    pub file_opens : {both : S × W} {bytes : List ℕ} (left : List ℕ) → IsPair IsHead then both bytes → Opens both.0 (bytes ++ left)
    file_opens {both = both} left s = subst (Opens both.0) (sym (pair_then s left)) (head_opens (s.back ++ left) s.first)

    pub magic_wanted : Wants (IsPair IsHead then) [] (IsExactly magic)
    magic_wanted = record { wants = λ v p r rest s e. let o = file_opens r s in (tt, magic, o.front ++ o.rest, refl, sym o.joined ∙ e) }

    pub start_wanted : Wants (IsPair IsHead then) magic start_in
    start_wanted = record { wants = λ v p r rest s e. let o = file_opens r s in (v.0, o.front, o.rest, o.spelled, append_cancel_left magic (o.front ++ o.rest) rest (sym o.joined ∙ e)) }
