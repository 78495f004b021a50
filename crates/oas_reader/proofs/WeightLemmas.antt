-- The weight of names, and how weights are added.
use Rattle.std.proofs.Common.{◌≡◌, ℕ, zero, suc, ◌+◌, ◌*◌, ◌<◌, List, [], ◌∷◌, Bool, true, false, cond, ◌||◌, Option, None, Some, length, unwrap_or, refl, sym, ◌∙◌, ap, subst, arith}
use Rattle.std.specs.Prelude.{nat_lt, is_none, min, ◌^◌, ◌-◌}
use Rattle.std.proofs.lemmas.Bool.Decides.{nat_tests}
use Rattle.oas_elements.specs.Laws.BagLaws.{total}
use Rattle.oas_reader.specs.Names.{name_of}
use Rattle.oas_reader.specs.Weights.{capped, AllUsed, joined, name_weight, names_weight}

-- ---- weights capped to 64 bits

min_more : (m a b : ℕ) → min (min a m + min b m) m ≡ min (a + b) m
min_more m a b = grind arith

pub capped_more : (a b : ℕ) → capped (capped a + capped b) ≡ capped (a + b)
capped_more a b = min_more (2 ^ 64 - 1) a b

min_before : (m a b : ℕ) → min (min a m + b) m ≡ min (a + b) m
min_before m a b = grind arith

-- capped before more is added
pub capped_before : (a b : ℕ) → capped (capped a + b) ≡ capped (a + b)
capped_before a b = min_before (2 ^ 64 - 1) a b

min_capped : (m v a : ℕ) → min (v + a) m ≡ min (v + min (a * 1) m) m
min_capped m v a = grind arith

-- once its weight
pub capped_once : (v a : ℕ) → capped (v + a) ≡ capped (v + capped (a * 1))
capped_once v a = min_capped (2 ^ 64 - 1) v a

-- a weight, where nothing lacks a name
abbrev pub known : ℕ → ℕ → Option ℕ
known lacking w = cond (nat_lt 0 lacking) None (Some (capped w))

pub some_lack : (a : ℕ) → nat_lt 0 (suc a) ≡ true
some_lack a = grind (arith, nat_tests)

either_lacks : (a b : ℕ) → (nat_lt 0 a || nat_lt 0 b) ≡ nat_lt 0 (a + b)
either_lacks zero b = ap (nat_lt 0) (omega arith)
either_lacks (suc a) b = let more : nat_lt 0 (suc a + b) ≡ true = grind (arith, nat_tests) in (λ i. some_lack a i || nat_lt 0 b) ∙ sym more

joined_if : (x y : Bool) (v w : ℕ) → joined (cond x None (Some (capped v))) (cond y None (Some (capped w))) ≡ cond (x || y) None (Some (capped (v + w)))
joined_if true y v w = refl
joined_if false true v w = refl
joined_if false false v w = ap Some (capped_more v w)

pub joined_known : (a b v w : ℕ) → joined (known a v) (known b w) ≡ known (a + b) (v + w)
joined_known a b v w = joined_if (nat_lt 0 a) (nat_lt 0 b) v w ∙ ap (λ t. cond t None (Some (capped (v + w)))) (either_lacks a b)

-- what a number without a name counts for
abbrev pub unnamed : List (ℕ × List ℕ) → ℕ → ℕ
unnamed names k = cond (is_none (name_of names k)) 1 0

-- the bytes of its name
abbrev pub name_length : List (ℕ × List ℕ) → ℕ → ℕ
name_length names k = length (unwrap_or (name_of names k) [])

-- the names of numbers that are used
one_known : (o : Option (List ℕ)) (n : ℕ) → 0 < n → name_weight o n ≡ known (n * cond (is_none o) 1 0) (n * length (unwrap_or o []))
one_known None n h = let more : nat_lt 0 (n * 1) ≡ true = grind (arith, nat_tests) in ap (λ t. cond t None (Some (capped (n * 0)))) (sym more)
one_known (Some name) n h = let none : nat_lt 0 (n * 0) ≡ false = grind (arith, nat_tests) in ap (λ t. cond t None (Some (capped (n * length name)))) (sym none)

pub names_known : (names : List (ℕ × List ℕ)) (ps : List (ℕ × ℕ)) → AllUsed ps → names_weight names ps ≡ known (total (unnamed names) ps) (total (name_length names) ps)
names_known names [] h = refl
names_known names (p ∷ ps) h =
    (λ i. joined (one_known (name_of names p.0) p.1 h.0 i) (names_known names ps h.1 i))
    ∙ joined_known (p.1 * unnamed names p.0) (total (unnamed names) ps) (p.1 * name_length names p.0) (total (name_length names) ps)

-- ---- weights that are added one after another

-- this much is added, and the rest makes it the whole
pub record Adding (now : ℕ) (rest whole : Option ℕ) : Type 0 where
  pub exact : capped now ≡ now
  pub joins : joined (Some now) rest ≡ whole

min_once : (m a : ℕ) → min (0 + min a m) m ≡ min a m
min_once m a = grind arith

min_step : (m a b c : ℕ) → min (min (a + b) m + c) m ≡ min (a + min (b + c) m) m
min_step m a b c = grind arith

min_twice : (m a : ℕ) → min (min a m) m ≡ min a m
min_twice m a = grind arith

pub joined_none : (a b : Option ℕ) → joined (Some 0) (joined a b) ≡ joined a b
joined_none None b = refl
joined_none (Some a) None = refl
joined_none (Some a) (Some b) = ap Some (min_once (2 ^ 64 - 1) (a + b))

-- nothing is added yet
pub names_begin : (names : List (ℕ × List ℕ)) (ps qs : List (ℕ × ℕ)) → ps ≡ qs → Adding 0 (names_weight names ps) (names_weight names qs)
names_begin names ps qs e = record { exact = refl; joins = by ps ∙ ap (names_weight names) e } where
  by : (rs : List (ℕ × ℕ)) → joined (Some 0) (names_weight names rs) ≡ names_weight names rs
  by [] = refl
  by (p ∷ rs) = joined_none (name_weight (name_of names p.0) p.1) (names_weight names rs)

min_of_small : (m a : ℕ) → a < m + 1 → min a m ≡ a
min_of_small m a h = grind arith

min_fits : (m a : ℕ) → min a m ≡ a → a < m + 1
min_fits m a e = grind arith

pub capped_fits : (a : ℕ) → capped a ≡ a → a < 2 ^ 64
capped_fits a e = min_fits (2 ^ 64 - 1) a e

-- some are added already
pub names_after : (names : List (ℕ × List ℕ)) (now : ℕ) (ps qs : List (ℕ × ℕ)) (whole : Option ℕ) → now < 2 ^ 64 → ps ≡ qs → joined (Some now) (names_weight names qs) ≡ whole
    → Adding now (names_weight names ps) whole
names_after names now ps qs whole h e is =
    record { exact = min_of_small (2 ^ 64 - 1) now h; joins = ap (λ (rs : List (ℕ × ℕ)). joined (Some now) (names_weight names rs)) e ∙ is }

-- one more
pub adding_more : (now more sum : ℕ) (one rest whole : Option ℕ) → Adding now (joined one rest) whole → one ≡ Some more → sum ≡ capped (now + more) → Adding sum rest whole
adding_more now more sum one rest whole h is e =
    subst (λ (s : ℕ). Adding s rest whole) (sym e) (record { exact = min_twice (2 ^ 64 - 1) (now + more); joins = by rest ∙ (ap (λ o. joined (Some now) (joined o rest)) (sym is) ∙ h.joins) }) where
      by : (r : Option ℕ) → joined (Some (capped (now + more))) r ≡ joined (Some now) (joined (Some more) r)
      by None = refl
      by (Some r) = ap Some (min_step (2 ^ 64 - 1) now more r)

-- one that isn't known
pub adding_none : (now : ℕ) (one rest whole : Option ℕ) → Adding now (joined one rest) whole → one ≡ None → None ≡ whole
adding_none now one rest whole h is = ap (λ o. joined (Some now) (joined o rest)) (sym is) ∙ h.joins

-- no more
pub adding_ends : (now : ℕ) (rest whole : Option ℕ) → Adding now rest whole → rest ≡ Some 0 → Some now ≡ whole
adding_ends now rest whole h is =
    let same : capped (now + 0) ≡ capped now = ap capped (omega arith) in
    sym (ap (λ o. joined (Some now) o) is ∙ ap Some (same ∙ h.exact)) ∙ h.joins
