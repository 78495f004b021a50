-- What waits, in another order.
use Rattle.std.proofs.Common.{◌≡◌, ℕ, ◌+◌, ◌*◌, ◌<◌, ◌≤◌, List, [], ◌∷◌, ◌++◌, zero, suc, Result, Ok, Err, OnOk, IfOk, false, length-append, refl, sym, ◌∙◌, ap, subst, arith}
use Rattle.std.specs.Prelude.{sum_by, map, length, slice_set, slice_index_or}
use Rattle.std.specs.List.{AllByRecursion}
use Rattle.std.specs.List.Sorted.{IsPermutation}
use Rattle.std.proofs.lemmas.List.Sorted.{sum_by-IsPermutation}
use Rattle.std.proofs.lemmas.List.Sums.{sum_by-cons}
use Rattle.oas_elements.specs.Laws.BagLaws.{total}
use Rattle.oas_runs.specs.Blocks.{joined}
use Rattle.oas_runs.proofs.BlockLemmas.{joined-more}
use Rattle.oas_reader.specs.Drawn.{Drawn}
use Rattle.oas_reader.specs.Finish.{IsFit}
use Rattle.oas_cells.specs.declared.short.Short.{Short}
use Rattle.oas_cells.specs.declared.sorting.Placed.{Placed}
use Rattle.oas_cells.specs.Short.{drawn_of, drawn_once}
use Rattle.oas_cells.specs.Compact.{SameWaiting, Waits, is_named}
use Rattle.oas_cells.specs.Laws.CompactLaws.{waits_for}
use Rattle.oas_cells.specs.Spreading.{Gain, AllOnce}
use Rattle.oas_cells.proofs.WaitLemmas.{total-append}

-- ---- what holds in another order

-- what holds for what waits holds for what waits no more often
holds_again : (P : Drawn → Type 0) (ps qs : List (Drawn × ℕ)) → ((g : Drawn → ℕ) → total g qs ≤ total g ps) → AllByRecursion (λ q. 0 < q.1) qs → AllByRecursion (λ p. P p.0) ps
    → AllByRecursion (λ q. P q.0) qs
holds_again P ps [] few some a = tt
holds_again P ps (q ∷ qs) few some a = (
  waits_for P q.0 ps a (λ g. one_of g (few g)),
  holds_again P ps qs (λ g. omega (arith, few g)) some.1 a,
)
  where
    one_of : (g : Drawn → ℕ) → q.1 * g q.0 + total g qs ≤ total g ps → g q.0 ≤ total g ps
    one_of g h = omega (arith, at_least (g q.0) q.1 some.0, h)
      where
        at_least : (k n : ℕ) → 0 < n → k ≤ n * k
        at_least k zero s = absurd (omega (arith, s))
        at_least k (suc m) s = omega arith

-- something waits
each_some : (ws : List (Drawn × ℕ)) → AllByRecursion Waits ws → AllByRecursion (λ w. 0 < w.1) ws
each_some [] a = tt
each_some (w ∷ ws) a = (a.0.some, each_some ws a.1)

pub sound_again : (P : Drawn → Type 0) (ps ws : List (Drawn × ℕ)) → SameWaiting ps ws → AllByRecursion Waits ws → AllByRecursion (λ p. P p.0) ps → AllByRecursion (λ w. P w.0) ws
sound_again P ps ws same a sound = holds_again P ps ws (λ g. omega (arith, same g)) (each_some ws a) sound

-- what waits, but for how often
abbrev WaitsOnce : Drawn → Type 0
WaitsOnce d = IsFit d × (is_named d ≡ false)

each_once : (ws : List (Drawn × ℕ)) → AllByRecursion Waits ws → AllByRecursion (λ w. WaitsOnce w.0) ws
each_once [] a = tt
each_once (w ∷ ws) a = ((a.0.fit, a.0.numbered), each_once ws a.1)

once_some : (ps : List (Drawn × ℕ)) → AllOnce ps → AllByRecursion (λ p. 0 < p.1) ps
once_some [] a = tt
once_some (p ∷ ps) a = (omega (arith, a.0), once_some ps a.1)

each_waits : (ps : List (Drawn × ℕ)) → AllOnce ps → AllByRecursion (λ p. WaitsOnce p.0) ps → AllByRecursion Waits ps
each_waits [] once a = tt
each_waits (p ∷ ps) once a = (record { fit = a.0.0; numbered = a.0.1; some = omega (arith, once.0) }, each_waits ps once.1 a.1)

-- so it waits in another order
pub waits_again : (ps ws : List (Drawn × ℕ)) → SameWaiting ps ws → AllOnce ps → AllByRecursion Waits ws → AllByRecursion Waits ps
waits_again ps ws same once a = each_waits ps once (holds_again WaitsOnce ws ps (λ g. omega (arith, same g)) (once_some ps once) (each_once ws a))

-- ---- sorted

-- each is drawn once
pub once_drawn : (ss : List Short) → AllOnce (drawn_once ss)
once_drawn [] = tt
once_drawn (s ∷ ss) = (refl, once_drawn ss)

pub once_both : (ps qs : List (Drawn × ℕ)) → AllOnce ps → AllOnce qs → AllOnce (ps ++ qs)
once_both [] qs a b = b
once_both (p ∷ ps) qs a b = (a.0, once_both ps qs a.1 b)

total-placed : (g : Drawn → ℕ) (all : List Placed) → total g (drawn_once (map (λ (p : Placed). p.short) all)) ≡ sum_by (λ (p : Placed). g (drawn_of p.short)) all
total-placed g [] = refl
total-placed g (p ∷ all) = omega (arith, total-placed g all, sum_by-cons (λ (p : Placed). g (drawn_of p.short)) p all)

pub sorted_same : (all sorted : List Placed) (ss ts : List Short) → map (λ (p : Placed). p.short) all ≡ ss → IsPermutation all sorted → ts ≡ map (λ (p : Placed). p.short) sorted
    → SameWaiting (drawn_once ts) (drawn_once ss)
sorted_same all sorted ss ts before moved after g =
    ap (λ xs. total g (drawn_once xs)) after ∙ total-placed g sorted ∙ sum_by-IsPermutation (λ (p : Placed). g (drawn_of p.short)) all sorted moved
    ∙ sym (total-placed g all) ∙ ap (λ xs. total g (drawn_once xs)) before

pub sorted_where_put : {T E : Type 0} (items : T → List Short) (r : Result T E) (all sorted lent : List Placed) (ss : List Short) → map (λ (p : Placed). p.short) all ≡ ss → IsPermutation all sorted
    → lent ≡ sorted → IfOk r (λ ts. items ts ≡ map (λ (p : Placed). p.short) lent) → IfOk r (λ ts. SameWaiting (drawn_once (items ts)) (drawn_once ss))
sorted_where_put items (Ok ts) all sorted lent ss before moved is after = sorted_same all sorted ss (items ts) before moved (after ∙ ap (map (λ (p : Placed). p.short)) is)
sorted_where_put items (Err x) all sorted lent ss before moved is after = tt

-- one part more is sorted
pub part_sorted : (row news rest : List (List (Drawn × ℕ))) (part sorted all : List (Drawn × ℕ)) → SameWaiting sorted part → news ≡ row ++ sorted ∷ []
    → SameWaiting (joined row ++ (part ++ joined rest)) all → SameWaiting (joined news ++ joined rest) all
part_sorted row news rest part sorted all same is h g =
    let new = ap (λ xs. total g (joined xs)) is ∙ ap (total g) (joined-more row sorted) in
    omega (arith, same g, h g, new, total-append g (joined news) (joined rest), total-append g (joined row) sorted, total-append g (joined row) (part ++ joined rest), total-append g part (joined rest))

pub part_once : (row news : List (List (Drawn × ℕ))) (sorted : List (Drawn × ℕ)) → news ≡ row ++ sorted ∷ [] → AllOnce (joined row) → AllOnce sorted → AllOnce (joined news)
part_once row news sorted is a b = subst AllOnce (sym (ap joined is ∙ joined-more row sorted)) (once_both (joined row) sorted a b)

-- ---- spread over parts

-- one part has more
part_gains : (parts : List (List (Drawn × ℕ))) (i : ℕ) (d new : List (Drawn × ℕ)) (p : Drawn × ℕ) → i < length parts → new ≡ slice_index_or parts i d ++ p ∷ []
    → Gain parts (p ∷ []) (slice_set parts i new)
part_gains [] i d new p h is g = absurd (omega (arith, h))
part_gains (x ∷ xs) zero d new p h is g =
    omega (arith, total-append g new (joined xs), total-append g x (joined xs), ap (total g) is, total-append g x (p ∷ []))
part_gains (x ∷ xs) (suc i) d new p h is g =
    omega (arith, total-append g x (joined (slice_set xs i new)), total-append g x (joined xs), part_gains xs i d new p (omega (arith, h)) is g)

pub gains_where_put : {U E : Type 0} (r : Result U E) (parts : List (List (Drawn × ℕ))) (i : ℕ) (d new : List (Drawn × ℕ)) (p : Drawn × ℕ) → i < length parts
    → OnOk r (new ≡ slice_index_or parts i d ++ p ∷ []) → OnOk r (Gain parts (p ∷ []) (slice_set parts i new))
gains_where_put (Ok u) parts i d new p h is = part_gains parts i d new p h is
gains_where_put (Err x) parts i d new p h is = tt

-- what was there and all that comes are what is there and what is left
abbrev pub Spreading : List (List (Drawn × ℕ)) → List (List (Drawn × ℕ)) → List (Drawn × ℕ) → List (Drawn × ℕ) → Type 0
Spreading first now all rest = (g : Drawn → ℕ) → total g (joined now) + total g rest ≡ total g (joined first) + total g all

pub spread_more : (first now new : List (List (Drawn × ℕ))) (all more rest : List (Drawn × ℕ)) → Gain now more new → Spreading first now all (more ++ rest) → Spreading first new all rest
spread_more first now new all more rest gain h g = omega (arith, gain g, h g, total-append g more rest)

-- one empty part more
pub record IsEmptied (parts : List (List (Drawn × ℕ))) (n : ℕ) : Type 0 where
  pub empty : joined parts ≡ []
  pub len : length parts ≡ n

pub empty_more : (parts news : List (List (Drawn × ℕ))) (part : List (Drawn × ℕ)) (n : ℕ) → part ≡ [] → news ≡ parts ++ part ∷ [] → joined parts ≡ [] → length parts ≡ n → IsEmptied news (n + 1)
empty_more parts news part n none is empty len = record {
  empty = ap joined is ∙ (joined-more parts part ∙ (λ i. empty i ++ none i));
  len = omega (arith, ap length is, length-append parts (part ∷ []), len);
}
