-- A table of how often numbers are used, beside the others.
use Rattle.std.proofs.Common.{◌≡◌, ℕ, zero, suc, ◌+◌, ◌*◌, ◌<◌, ◌≤◌, List, [], ◌∷◌, ◌++◌, replicate, take, take_all, drop, length, Option, Some, None, refl, sym, ◌∙◌, ap, subst, arith}
use Rattle.std.specs.Prelude.{min, ◌^◌, ◌-◌, slice_set, slice_index_or}
use Rattle.std.specs.Ordering.{nat_cmp, match_ordering}
use Rattle.std.specs.declared.cmp.Ordering.TheVariants.{Less, Equal, Greater}
use Rattle.std.proofs.lemmas.Bool.Decides.{nat_tests}
use Rattle.oas_elements.specs.Bag.{put_more}
use Rattle.oas_elements.specs.Laws.BagLaws.{total}
use Rattle.oas_reader.specs.Names.{name_of}
use Rattle.std.proofs.lemmas.List.{drop_more}
use Rattle.oas_reader.specs.Weights.{capped, joined, name_weight, names_weight}
use Rattle.oas_reader.specs.Used.{with_uses, with_table}
use Rattle.oas_reader.proofs.UsedLemmas.{exact_nat, total_more}
use Rattle.oas_reader.proofs.WeightLemmas.{Adding, adding_more, adding_none}

-- ---- one more use beside one number

before_step : (k n : ℕ) (p : ℕ × ℕ) (ps : List (ℕ × ℕ)) → k < p.0 → put_more nat_cmp (p ∷ ps) k n ≡ (k, n) ∷ p ∷ ps
before_step k n p ps h = grind (arith, nat_tests)

at_step : (k n : ℕ) (p : ℕ × ℕ) (ps : List (ℕ × ℕ)) → k ≡ p.0 → put_more nat_cmp (p ∷ ps) k n ≡ (p.0, p.1 + n) ∷ ps
at_step k n p ps h = grind (arith, nat_tests)

past_step : (k n : ℕ) (p : ℕ × ℕ) (ps : List (ℕ × ℕ)) → p.0 < k → put_more nat_cmp (p ∷ ps) k n ≡ p ∷ put_more nat_cmp ps k n
past_step k n p ps h = grind (arith, nat_tests)

-- two uses come in any order
swap_step : (k t n x : ℕ) (p : ℕ × ℕ) (ps : List (ℕ × ℕ)) → put_more nat_cmp (put_more nat_cmp ps k t) n x ≡ put_more nat_cmp (put_more nat_cmp ps n x) k t
    → put_more nat_cmp (put_more nat_cmp (p ∷ ps) k t) n x ≡ put_more nat_cmp (put_more nat_cmp (p ∷ ps) n x) k t
swap_step k t n x p ps ih = grind (arith, nat_tests)

pub swap : (ps : List (ℕ × ℕ)) (k t n x : ℕ) → put_more nat_cmp (put_more nat_cmp ps k t) n x ≡ put_more nat_cmp (put_more nat_cmp ps n x) k t
swap [] k t n x = grind (arith, nat_tests)
swap (p ∷ ps) k t n x = swap_step k t n x p ps (swap ps k t n x)

twice_step : (k t x : ℕ) (p : ℕ × ℕ) (ps : List (ℕ × ℕ)) → put_more nat_cmp (put_more nat_cmp ps k t) k x ≡ put_more nat_cmp ps k (t + x)
    → put_more nat_cmp (put_more nat_cmp (p ∷ ps) k t) k x ≡ put_more nat_cmp (p ∷ ps) k (t + x)
twice_step k t x p ps ih = grind (arith, nat_tests)

-- two uses of one number
pub twice : (ps : List (ℕ × ℕ)) (k t x : ℕ) → put_more nat_cmp (put_more nat_cmp ps k t) k x ≡ put_more nat_cmp ps k (t + x)
twice [] k t x = grind (arith, nat_tests)
twice (p ∷ ps) k t x = twice_step k t x p ps (twice ps k t x)

-- ---- a table

-- uses beside those of one number in a table
uses_swap : (n t : ℕ) (es : List (ℕ × ℕ)) (k x : ℕ) → with_uses n t (put_more nat_cmp es k x) ≡ put_more nat_cmp (with_uses n t es) k x
uses_swap n zero es k x = refl
uses_swap n (suc t) es k x = swap es k x n (suc t)

-- more uses of a number in a table
uses_more : (n t : ℕ) (es : List (ℕ × ℕ)) (x : ℕ) → 0 < x → with_uses n (t + x) es ≡ put_more nat_cmp (with_uses n t es) n x
uses_more n t es zero h = absurd (omega (arith, h))
uses_more n zero es (suc x) h = ap (λ (y : ℕ). with_uses n y es) {y = suc x} (omega arith)
uses_more n (suc t) es (suc x) h =
    ap (λ (y : ℕ). with_uses n y es) {y = suc (t + suc x)} (omega arith)
    ∙ sym (twice es n (suc t) (suc x) ∙ ap (put_more nat_cmp es n) {y = suc (t + suc x)} (omega arith))

-- one of the others
pub table_other : (n : ℕ) (ts : List ℕ) (es : List (ℕ × ℕ)) (k x : ℕ) → with_table n ts (put_more nat_cmp es k x) ≡ put_more nat_cmp (with_table n ts es) k x
table_other n [] es k x = refl
table_other n (t ∷ ts) es k x = ap (with_uses n t) (table_other (n + 1) ts es k x) ∙ uses_swap n t (with_table (n + 1) ts es) k x

-- one in the table
table_within : (n : ℕ) (ts : List ℕ) (es : List (ℕ × ℕ)) (i q x d : ℕ) → n + i ≡ q → i < length ts → 0 < x
    → with_table n (slice_set ts i (slice_index_or ts i d + x)) es ≡ put_more nat_cmp (with_table n ts es) q x
table_within n [] es i q x d e h some = absurd (omega (arith, h))
table_within n (t ∷ ts) es zero q x d e h some =
    uses_more n t (with_table (n + 1) ts es) x some ∙ ap (λ (k : ℕ). put_more nat_cmp (with_uses n t (with_table (n + 1) ts es)) k x) (omega (arith, e))
table_within n (t ∷ ts) es (suc i) q x d e h some =
    ap (with_uses n t) (table_within (n + 1) ts es i q x d (omega (arith, e)) (omega (arith, h)) some)
    ∙ uses_swap n t (with_table (n + 1) ts es) q x

pub table_more : (ts : List ℕ) (es : List (ℕ × ℕ)) (k x d : ℕ) → k < length ts → 0 < x → with_table 0 (slice_set ts k (slice_index_or ts k d + x)) es ≡ put_more nat_cmp (with_table 0 ts es) k x
table_more ts es k x d h some = table_within 0 ts es k k x d (omega arith) h some

-- numbers that aren't used
table_of_zeros : (n count : ℕ) (es : List (ℕ × ℕ)) → with_table n (replicate count 0) es ≡ es
table_of_zeros n zero es = refl
table_of_zeros n (suc count) es = table_of_zeros (n + 1) count es

table_before : (n : ℕ) (ts : List ℕ) (count : ℕ) (es : List (ℕ × ℕ)) → with_table n (ts ++ replicate count 0) es ≡ with_table n ts es
table_before n [] count es = table_of_zeros n count es
table_before n (t ∷ ts) count es = ap (with_uses n t) (table_before (n + 1) ts count es)

-- ---- how often all are used

uses_total : (n t : ℕ) (es : List (ℕ × ℕ)) → total (λ _. 1) (with_uses n t es) ≡ total (λ _. 1) es + t
uses_total n zero es = omega arith
uses_total n (suc t) es = total_more (λ _. 1) es n (suc t) ∙ omega arith

-- the others are used no more often
pub table_total : (n : ℕ) (ts : List ℕ) (es : List (ℕ × ℕ)) → total (λ _. 1) es ≤ total (λ _. 1) (with_table n ts es)
table_total n [] es = omega arith
table_total n (t ∷ ts) es = omega (arith, uses_total n t (with_table (n + 1) ts es), table_total (n + 1) ts es)

-- nor is one of the table
pub tabled_few : (n : ℕ) (ts : List ℕ) (es : List (ℕ × ℕ)) (i d : ℕ) → i < length ts → slice_index_or ts i d ≤ total (λ _. 1) (with_table n ts es)
tabled_few n [] es i d h = absurd (omega (arith, h))
tabled_few n (t ∷ ts) es zero d h = omega (arith, uses_total n t (with_table (n + 1) ts es))
tabled_few n (t ∷ ts) es (suc i) d h = omega (arith, uses_total n t (with_table (n + 1) ts es), tabled_few (n + 1) ts es i d (omega (arith, h)))

-- ---- the weight of names

capped_swap : (m a b c : ℕ) → min (a + min (b + c) m) m ≡ min (b + min (a + c) m) m
capped_swap m a b c = grind arith

capped_twice : (m a b n c : ℕ) → min (min ((a + b) * n) m + c) m ≡ min (min (b * n) m + min (min (a * n) m + c) m) m
capped_twice m a b n c = let e : (a + b) * n ≡ a * n + b * n = omega arith in rw e (by (a * n) (b * n)) where
  by : (x y : ℕ) → min (min (x + y) m + c) m ≡ min (min y m + min (min x m + c) m) m
  by x y = grind arith

joined_swap : (a b c : Option ℕ) → joined a (joined b c) ≡ joined b (joined a c)
joined_swap None None c = refl
joined_swap None (Some b) None = refl
joined_swap None (Some b) (Some c) = refl
joined_swap (Some a) None c = refl
joined_swap (Some a) (Some b) None = refl
joined_swap (Some a) (Some b) (Some c) = ap Some (capped_swap (2 ^ 64 - 1) a b c)

joined_twice : (name : Option (List ℕ)) (a b : ℕ) (c : Option ℕ) → joined (name_weight name (a + b)) c ≡ joined (name_weight name b) (joined (name_weight name a) c)
joined_twice None a b c = refl
joined_twice (Some name) a b None = refl
joined_twice (Some name) a b (Some c) = ap Some (capped_twice (2 ^ 64 - 1) a b (length name) c)

-- more uses of a number weigh what its name does
pub names_more : (names : List (ℕ × List ℕ)) (es : List (ℕ × ℕ)) (k n : ℕ) → names_weight names (put_more nat_cmp es k n) ≡ joined (name_weight (name_of names k) n) (names_weight names es)
names_more names [] k n = refl
names_more names (p ∷ ps) k n =
    elim (nat_cmp k p.0) as (λ r. nat_cmp k p.0 ≡ r → names_weight names (match_ordering r ((k, n) ∷ p ∷ ps) ((p.0, p.1 + n) ∷ ps) (p ∷ put_more nat_cmp ps k n)) ≡ joined (name_weight (name_of names k) n) (names_weight names (p ∷ ps))) [
      | Less ↦ λ e. refl
      | Equal ↦ λ e.
          joined_twice (name_of names p.0) p.1 n (names_weight names ps) ∙ ap (λ (q : ℕ). joined (name_weight (name_of names q) n) (joined (name_weight (name_of names p.0) p.1) (names_weight names ps))) (exact_nat k p.0 e)
      | Greater ↦ λ e. ap (joined (name_weight (name_of names p.0) p.1)) (names_more names ps k n) ∙ joined_swap (name_weight (name_of names p.0) p.1) (name_weight (name_of names k) n) (names_weight names ps)
    ] refl

-- a longer table
pub table_longer : (old new : List ℕ) (most count : ℕ) (es : List (ℕ × ℕ)) → length old ≤ most → new ≡ take most old ++ replicate count 0 → with_table 0 new es ≡ with_table 0 old es
table_longer old new most count es h is =
    ap (λ (ts : List ℕ). with_table 0 ts es) (is ∙ ap (λ (ts : List ℕ). ts ++ replicate count 0) (take_all most old h)) ∙ table_before 0 old count es

-- ---- the weight of a table, number by number

module _ (names : List (ℕ × List ℕ)) (now n d : ℕ) (ts : List ℕ) (es : List (ℕ × ℕ)) (whole : Option ℕ) where
  here : n < length ts → with_table n (drop n ts) es ≡ with_uses n (slice_index_or ts n d) (with_table (n + 1) (drop (n + 1) ts) es)
  here h = ap (λ (us : List ℕ). with_table n us es) (drop_more ts n d h)

  some_used : (t : ℕ) (fs : List (ℕ × ℕ)) → 0 < t → names_weight names (with_uses n t fs) ≡ joined (name_weight (name_of names n) t) (names_weight names fs)
  some_used zero fs some = absurd (omega (arith, some))
  some_used (suc t) fs some = names_more names fs n (suc t)

  more : n < length ts → 0 < slice_index_or ts n d → Adding now (names_weight names (with_table n (drop n ts) es)) whole
      → Adding now (joined (name_weight (name_of names n) (slice_index_or ts n d)) (names_weight names (with_table (n + 1) (drop (n + 1) ts) es))) whole
  more h some a =
      subst (λ (rest : Option ℕ). Adding now rest whole) (ap (names_weight names) (here h) ∙ some_used (slice_index_or ts n d) (with_table (n + 1) (drop (n + 1) ts) es) some) a

  -- it is used, and has no name
  pub tabled_none : n < length ts → 0 < slice_index_or ts n d → None ≡ name_of names n → Adding now (names_weight names (with_table n (drop n ts) es)) whole → None ≡ whole
  tabled_none h some none a = adding_none now _ _ whole (more h some a) (ap (λ o. name_weight o (slice_index_or ts n d)) (sym none))

  -- it is used
  pub tabled_more : (name : List ℕ) (sum : ℕ) → n < length ts → 0 < slice_index_or ts n d → Some name ≡ name_of names n → sum ≡ capped (now + capped (slice_index_or ts n d * length name))
      → Adding now (names_weight names (with_table n (drop n ts) es)) whole → Adding sum (names_weight names (with_table (n + 1) (drop (n + 1) ts) es)) whole
  tabled_more name sum h some is e a =
      adding_more now _ sum _ _ whole (more h some a) (ap (λ o. name_weight o (slice_index_or ts n d)) (sym is)) e

  -- it isn't used
  pub tabled_unused : n < length ts → slice_index_or ts n d ≡ 0 → Adding now (names_weight names (with_table n (drop n ts) es)) whole
      → Adding now (names_weight names (with_table (n + 1) (drop (n + 1) ts) es)) whole
  tabled_unused h none a =
      subst (λ (fs : List (ℕ × ℕ)). Adding now (names_weight names fs) whole) (here h ∙ ap (λ (t : ℕ). with_uses n t (with_table (n + 1) (drop (n + 1) ts) es)) none) a
