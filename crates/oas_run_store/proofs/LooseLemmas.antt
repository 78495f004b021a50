-- The loose keys, put into order and made into runs.
use Rattle.std.proofs.Common.{◌≡◌, ℕ, suc, ◌+◌, ◌*◌, ◌<◌, ◌≤◌, ◌^◌, true, List, [], ◌∷◌, ◌++◌, cond, length, get_or, drop, drop-cons, refl, sym, ◌∙◌, ap, arith, subst}
use Rattle.std.specs.Cmp.{IsTotalOrder, tied_itself}
use Rattle.std.specs.Ordering.{is_eq}
use Rattle.std.specs.List.{sum_by}
use Rattle.std.specs.List.Sorted.{IsPermutation}
use Rattle.std.specs.declared.cmp.Ordering.{Ordering}
use Rattle.std.proofs.lemmas.List.{map-append}
use Rattle.std.proofs.lemmas.List.Sorted.{sum_by-IsPermutation}
use Rattle.std.proofs.lemmas.List.Sums.{sum_by-cons}
use Rattle.oas_run_store.specs.declared.loose.Loose.{Loose}
use Rattle.oas_runs.specs.Entries.{Entry, entries, IsBlock}
use Rattle.oas_run_store.specs.Loose.{first_of, entry_of, entries_of, Begins}
use Rattle.oas_runs.specs.Runs.{total, copies, Positive, SameTotals}
use Rattle.oas_runs.specs.Laws.RunLaws.{total-append}
use Rattle.oas_runs.specs.Blocks.{joined}
use Rattle.oas_run_store.specs.Parts.{contents, AreParts, AreRuns, CountsFit, IsBelow}
use Rattle.oas_run_store.proofs.PartLemmas.{total_contents, IsRun-empty}
use Rattle.oas_run_store.proofs.AddLemmas.{More}

-- ---- where entries begin

-- one more was put
pub entry_put : (bytes : List ℕ) (all alls : List Loose) (a : Loose) (p : Entry) → alls ≡ all ++ a ∷ [] → entry_of bytes a ≡ p
    → SameTotals (entries_of bytes alls) (p ∷ entries_of bytes all)
entry_put bytes all alls a p e f g =
    omega (
      arith,
      ap (total g) (ap (entries_of bytes) e ∙ map-append (entry_of bytes) all (a ∷ [])),
      total-append g (entries_of bytes all) (entry_of bytes a ∷ []),
      ap (λ (q : Entry). total g (q ∷ [])) f,
    )

-- one of them
pub one_begins : (bytes : List ℕ) (a : Loose) (at : ℕ) → a.at ≡ at → at ≤ length bytes → IsBlock (drop at bytes) → Begins bytes a
one_begins bytes a at e h b = subst (λ (n : ℕ). (n ≤ length bytes) × IsBlock (drop n bytes)) (sym e) (h, b)

pub first_begun : (bytes others : List ℕ) (a : Loose) (at : ℕ) (p : Entry) (ps : List Entry) → a.at ≡ at → others ≡ drop at bytes → entries others ≡ p ∷ ps → entry_of bytes a ≡ p
first_begun bytes others a at p ps e f h = ap (λ (n : ℕ). first_of (entries (drop n bytes))) e ∙ sym (ap (λ (bs : List ℕ). first_of (entries bs)) f) ∙ ap first_of h

-- none was put yet
pub none_put : (bytes : List ℕ) (all : List Loose) → all ≡ [] → SameTotals (entries_of bytes all ++ entries (drop 0 bytes)) (entries bytes)
none_put bytes all e g = omega (arith, total-append g (entries_of bytes all) (entries bytes), ap (λ (xs : List Loose). total g (entries_of bytes xs)) e)

-- all were put
pub all_begin : (bytes left : List ℕ) (all : List Loose) → entries left ≡ [] → SameTotals (entries_of bytes all ++ entries left) (entries bytes)
    → SameTotals (entries_of bytes all) (entries bytes)
all_begin bytes left all e h g = omega (arith, h g, total-append g (entries_of bytes all) (entries left), ap (total g) e)

-- ---- in order

abbrev weight : List ℕ → (List ℕ → ℕ) → Loose → ℕ
weight bytes g a = (entry_of bytes a).1 * g (entry_of bytes a).0

total-entries : (bytes : List ℕ) (g : List ℕ → ℕ) (all : List Loose) → total g (entries_of bytes all) ≡ sum_by (weight bytes g) all
total-entries bytes g [] = refl
total-entries bytes g (a ∷ all) = ap (λ (n : ℕ). weight bytes g a + n) (total-entries bytes g all) ∙ sym (sum_by-cons (weight bytes g) a all)

-- in another order they weigh the same
pub in_order_same : (bytes : List ℕ) (all sorted : List Loose) (whole : List Entry) → IsPermutation all sorted → SameTotals (entries_of bytes all) whole
    → SameTotals (entries_of bytes sorted) whole
in_order_same bytes all sorted whole p h g =
    total-entries bytes g sorted ∙ sum_by-IsPermutation (weight bytes g) all sorted p ∙ sym (total-entries bytes g all) ∙ h g

-- ---- put one after another

module _ {K : Type 0} where
  -- how often the next may still come
  pub next_room : {R : K → K → Ordering} → IsTotalOrder R → (es : List (K × ℕ)) (rs : List (List (K × ℕ))) (k : K) (n : ℕ) → CountsFit R ((k, n) ∷ (es ++ joined rs))
      → copies R k es + n < 2 ^ 64
  next_room {R} o es rs k n h =
      let g : K → ℕ = λ x. cond (is_eq (R k x)) 1 0 in
      let yes : is_eq (R k k) ≡ true = ap is_eq (tied_itself o k) in
      let one : n * cond (is_eq (R k k)) 1 0 ≡ n = rw yes (omega arith) in
      omega (arith, h k, one, total-append g es (joined rs))

  pub next_same : (es fs : List (K × ℕ)) (rs : List (List (K × ℕ))) (k : K) (n : ℕ) → More es fs k n → SameTotals (fs ++ joined rs) ((k, n) ∷ (es ++ joined rs))
  next_same es fs rs k n h g = omega (arith, h g, total-append g es (joined rs), total-append g fs (joined rs))

  -- after the rising run became one of the others
  pub next_begun : (es ms fs : List (K × ℕ)) (rs rs' : List (List (K × ℕ))) (k : K) (n : ℕ) → SameTotals (ms ++ joined rs') (es ++ joined rs) → More ms fs k n
      → SameTotals (fs ++ joined rs') ((k, n) ∷ (es ++ joined rs))
  next_begun es ms fs rs rs' k n h m g = omega (arith, h g, m g, total-append g ms (joined rs'), total-append g fs (joined rs'))

  none_above : (ps : List (K × ℕ)) (p : K × ℕ) → [] ≡ ps ++ p ∷ [] → ⊥
  none_above [] p e = let l = ap length e in omega (arith, l)
  none_above (x ∷ xs) p e = let l = ap length e in omega (arith, l)

  pub below_none : (R : K → K → Ordering) (es : List (K × ℕ)) (k : K) → es ≡ [] → IsBelow R es k
  below_none R es k e ps p is = absurd (none_above ps p (sym e ∙ is))

  -- no count is too large for what is left
  pub apart_fit : (R : K → K → Ordering) (ls es : List (K × ℕ)) → CountsFit R (ls ++ es) → CountsFit R ls
  apart_fit R ls es h k = omega (arith, h k, total-append (λ x. cond (is_eq (R k x)) 1 0) ls es)

  -- ---- runs added to others

  pub runs_with : (R : K → K → Ordering) (rs ss : List (List (K × ℕ))) → AreRuns R rs → AreRuns R ss → AreRuns R (rs ++ ss)
  runs_with R [] ss h k = k
  runs_with R (r ∷ rs) ss h k = (h.0, runs_with R rs ss h.1 k)

  pub total-with : (g : K → ℕ) (rs ss : List (List (K × ℕ))) → total g (joined (rs ++ ss)) ≡ total g (joined rs) + total g (joined ss)
  total-with g [] ss = omega arith
  total-with g (r ∷ rs) ss = omega (arith, total-with g rs ss, total-append g r (joined (rs ++ ss)), total-append g r (joined rs))

  -- what waited is settled
  pub put_to_runs : (olds mids settled : List (List (K × ℕ))) (loose : List (K × ℕ)) → mids ≡ olds ++ settled → SameTotals (joined settled) loose
      → SameTotals (joined mids) (loose ++ joined olds)
  put_to_runs olds mids settled loose e h g =
      omega (arith, h g, ap (λ (rs : List (List (K × ℕ))). total g (joined rs)) e, total-with g olds settled, total-append g loose (joined olds))

  pub same_fit : (R : K → K → Ordering) (es fs : List (K × ℕ)) → SameTotals fs es → CountsFit R es → CountsFit R fs
  same_fit R es fs h c k = omega (arith, h (λ x. cond (is_eq (R k x)) 1 0), c k)

  -- the loose ones are settled, and begin anew
  pub loose_settled : (l l' : List (K × ℕ)) (olds news : List (List (K × ℕ))) → l' ≡ [] → SameTotals (joined news) (l ++ joined olds)
      → SameTotals (l' ++ joined news) (l ++ joined olds)
  loose_settled l l' olds news f h g = omega (arith, h g, ap (total g) f, total-append g l' (joined news))

  pub loose_fit : (R : K → K → Ordering) (r l : List (K × ℕ)) (rs : List (List (K × ℕ))) → CountsFit R (contents r l rs) → CountsFit R (l ++ joined rs)
  loose_fit R r l rs h k = omega (arith, h k, total_contents (λ x. cond (is_eq (R k x)) 1 0) r l rs, total-append (λ x. cond (is_eq (R k x)) 1 0) l (joined rs))

  pub loose_same : (r l l' : List (K × ℕ)) (rs rs' : List (List (K × ℕ))) → SameTotals (l' ++ joined rs') (l ++ joined rs) → SameTotals (contents r l' rs') (contents r l rs)
  loose_same r l l' rs rs' h g = omega (arith, h g, total-append g l (joined rs), total-append g l' (joined rs'), total_contents g r l rs, total_contents g r l' rs')

  pub loose_parts : (R : K → K → Ordering) (r l l' : List (K × ℕ)) (rs rs' : List (List (K × ℕ))) → AreParts R r l rs → Positive l' → AreRuns R rs'
      → SameTotals (l' ++ joined rs') (l ++ joined rs) → AreParts R r l' rs'
  loose_parts R r l l' rs rs' p w runs h =
      record { ascends = p.ascends; waits = w; runs = runs; fits = same_fit R (contents r l rs) (contents r l' rs') (loose_same r l l' rs rs' h) p.fits }

  -- a block is put among the others, or among the runs
  pub block_added : (l l' b : List (K × ℕ)) (rs : List (List (K × ℕ))) → l' ≡ l ++ b → SameTotals (l' ++ joined rs) (b ++ (l ++ joined rs))
  block_added l l' b rs e g =
      omega (arith, ap (total g) e, total-append g l b, total-append g l' (joined rs), total-append g b (l ++ joined rs), total-append g l (joined rs))

  pub block_run : (l l' b run : List (K × ℕ)) (rs rs' : List (List (K × ℕ))) → l' ≡ l → run ≡ b → SameTotals (joined rs') (run ++ joined rs)
      → SameTotals (l' ++ joined rs') (b ++ (l ++ joined rs))
  block_run l l' b run rs rs' e f h g =
      omega (
        arith,
        h g,
        ap (total g) e,
        ap (total g) f,
        total-append g l' (joined rs'),
        total-append g run (joined rs),
        total-append g b (l ++ joined rs),
        total-append g l (joined rs),
      )

  -- the rising run is put among the others
  pub risen_same : (r r' l l' b : List (K × ℕ)) (rs mids rs' : List (List (K × ℕ))) → b ≡ r → r' ≡ [] → mids ≡ rs
      → SameTotals (l' ++ joined rs') (b ++ (l ++ joined mids)) → SameTotals (contents r' l' rs') (contents r l rs)
  risen_same r r' l l' b rs mids rs' e f m h g =
      omega (
        arith,
        h g,
        ap (total g) e,
        ap (total g) f,
        ap (λ (xs : List (List (K × ℕ))). total g (joined xs)) m,
        total-append g b (l ++ joined mids),
        total-append g l (joined mids),
        total-append g l' (joined rs'),
        total_contents g r l rs,
        total_contents g r' l' rs',
      )

  pub risen_parts : (R : K → K → Ordering) (r r' l l' b : List (K × ℕ)) (rs mids rs' : List (List (K × ℕ))) → AreParts R r l rs → b ≡ r → r' ≡ [] → mids ≡ rs
      → Positive l' → AreRuns R rs' → SameTotals (l' ++ joined rs') (b ++ (l ++ joined mids)) → AreParts R r' l' rs'
  risen_parts R r r' l l' b rs mids rs' p e f m w runs h =
      record { ascends = IsRun-empty R r' f; waits = w; runs = runs; fits = same_fit R (contents r l rs) (contents r' l' rs') (risen_same r r' l l' b rs mids rs' e f m h) p.fits }

-- ---- the loop

-- nothing was put
pub begun_same : (r es : List Entry) (rs : List (List Entry)) → r ≡ [] → rs ≡ [] → SameTotals ((r ++ joined rs) ++ es) es
begun_same r es rs a b g =
    omega (arith, ap (total g) a, ap (λ (xs : List (List Entry)). total g (joined xs)) b, total-append g (r ++ joined rs) es, total-append g r (joined rs))

pub no_runs : (R : List ℕ → List ℕ → Ordering) (rs : List (List Entry)) → rs ≡ [] → AreRuns R rs
no_runs R rs e = subst (λ (xs : List (List Entry)). AreRuns R xs) (sym e) tt

-- none
abbrev pub nothing : Loose
nothing = record { front = 0; next = 0; at = 0 }

-- the one whose turn it is
pub next_is : (bytes : List ℕ) (all : List Loose) (i : ℕ) (d : Loose) → i < length all
    → entries_of bytes (drop i all) ≡ entry_of bytes (get_or all i d) ∷ entries_of bytes (drop (i + 1) all)
next_is bytes all i d h =
    let more : suc i ≡ i + 1 = omega arith in
    ap (entries_of bytes) (drop-cons all i d h) ∙ ap (λ (n : ℕ). entry_of bytes (get_or all i d) ∷ entries_of bytes (drop n all)) more

pub next_left : (bytes left : List ℕ) (all : List Loose) (i : ℕ) (d : Loose) → i < length all → left ≡ drop (get_or all i d).at bytes
    → entries_of bytes (drop i all) ≡ first_of (entries left) ∷ entries_of bytes (drop (i + 1) all)
next_left bytes left all i d h e =
    next_is bytes all i d h ∙ ap (λ (bs : List ℕ). first_of (entries bs) ∷ entries_of bytes (drop (i + 1) all)) (sym e)

-- where there is none, none was put
pub none_first : (bytes : List ℕ) (es : List Entry) → entries bytes ≡ [] → SameTotals es (first_of (entries bytes) ∷ es)
none_first bytes es e g = omega (arith, ap (λ (ps : List Entry). total g (first_of ps ∷ es)) e)

pub turn_fits : (R : List ℕ → List ℕ → Ordering) (done left rest whole : List Entry) (p : Entry) → left ≡ p ∷ rest → SameTotals (done ++ left) whole → CountsFit R whole
    → CountsFit R (p ∷ done)
turn_fits R done left rest whole p e h c k =
    let g : List ℕ → ℕ = λ x. cond (is_eq (R k x)) 1 0 in
    omega (arith, c k, h g, total-append g done left, ap (total g) e)

pub turn_same : (done dones left rest whole : List Entry) (p : Entry) → left ≡ p ∷ rest → SameTotals dones (p ∷ done) → SameTotals (done ++ left) whole
    → SameTotals (dones ++ rest) whole
turn_same done dones left rest whole p e h w g =
    omega (arith, w g, h g, total-append g done left, total-append g dones rest, ap (total g) e)

pub turns_fit : (R : List ℕ → List ℕ → Ordering) (done left whole : List Entry) → SameTotals (done ++ left) whole → CountsFit R whole → CountsFit R done
turns_fit R done left whole h c k =
    let g : List ℕ → ℕ = λ x. cond (is_eq (R k x)) 1 0 in
    omega (arith, c k, h g, total-append g done left)

pub turns_same : (done left risen news whole : List Entry) → SameTotals (done ++ left) whole → left ≡ [] → risen ≡ [] → SameTotals (risen ++ news) done → SameTotals news whole
turns_same done left risen news whole h e a k g =
    omega (arith, h g, k g, total-append g done left, total-append g risen news, ap (total g) e, ap (total g) a)
