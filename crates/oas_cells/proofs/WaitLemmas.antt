-- What waits in chunks and in the map, and more of it.
use Rattle.std.proofs.Common.{◌≡◌, ℕ, ◌+◌, ◌<◌, List, [], ◌∷◌, ◌++◌, refl, sym, ◌∙◌, ap, subst, arith, append-nil}
use Rattle.std.specs.List.{AllByRecursion}
use Rattle.oas_elements.specs.Laws.BagLaws.{total}
use Rattle.oas_runs.specs.Blocks.{joined}
use Rattle.oas_runs.proofs.BlockLemmas.{joined-more}
use Rattle.oas_reader.specs.Drawn.{Drawn}
use Rattle.oas_reader.specs.DrawingDrawn.{drawn_cmp}
use Rattle.oas_reader.specs.Held.{with_drawn}
use Rattle.oas_cells.specs.declared.short.Short.{Short}
use Rattle.oas_cells.specs.Short.{drawn_of, drawn_once}
use Rattle.oas_cells.specs.Compact.{Waits, WaitsMore}
use Rattle.oas_cells.proofs.DrawLemmas.{all-put_more, waiting_more}

-- ---- chunks

-- one more at the end
pub once_more : (ss : List Short) (s : Short) → drawn_once (ss ++ s ∷ []) ≡ drawn_once ss ++ (drawn_of s, 1) ∷ []
once_more [] s = refl
once_more (x ∷ ss) s = ap (λ (ps : List (Drawn × ℕ)). (drawn_of x, 1) ∷ ps) (once_more ss s)

-- the last chunk among the full ones, and an empty one in its place
pub aside : {X : Type 0} (full fulls : List (List X)) (last news : List X) → fulls ≡ full ++ last ∷ [] → news ≡ [] → joined fulls ++ news ≡ joined full ++ last
aside full fulls last news f e = (λ i. joined (f i) ++ e i) ∙ (append-nil (joined (full ++ last ∷ [])) ∙ joined-more full last)

-- ---- one list and then another

pub total-append : (g : Drawn → ℕ) (ps qs : List (Drawn × ℕ)) → total g (ps ++ qs) ≡ total g ps + total g qs
total-append g [] qs = omega arith
total-append g (p ∷ ps) qs = omega (arith, total-append g ps qs)

pub all_front : (ps qs : List (Drawn × ℕ)) → AllByRecursion Waits (ps ++ qs) → AllByRecursion Waits ps
all_front [] qs a = tt
all_front (p ∷ ps) qs a = (a.0, all_front ps qs a.1)

pub all_back : (ps qs : List (Drawn × ℕ)) → AllByRecursion Waits (ps ++ qs) → AllByRecursion Waits qs
all_back [] qs a = a
all_back (p ∷ ps) qs a = all_back ps qs a.1

pub all_both : (ps qs : List (Drawn × ℕ)) → AllByRecursion Waits ps → AllByRecursion Waits qs → AllByRecursion Waits (ps ++ qs)
all_both [] qs a b = b
all_both (p ∷ ps) qs a b = (a.0, all_both ps qs a.1 b)

-- ---- more

more_some : (k n : ℕ) → 0 < k → 0 < k + n
more_some k n h = omega arith

module _ (cs os ws : List (Drawn × ℕ)) (view : cs ++ os ≡ ws) where
  short_more : (e : Drawn) → WaitsMore (cs ++ os) e 1 ((cs ++ (e, 1) ∷ []) ++ os)
  short_more e = record {
    sums = λ g. omega (arith, total-append g (cs ++ (e, 1) ∷ []) os, total-append g cs ((e, 1) ∷ []), total-append g cs os);
    waits = λ a one. all_both (cs ++ (e, 1) ∷ []) os (all_both cs ((e, 1) ∷ []) (all_front cs os a) (one, tt)) (all_back cs os a);
  }

  -- in chunks
  pub chunks_more : (news : List (Drawn × ℕ)) (d e : Drawn) (n : ℕ) → news ≡ cs ++ (e, 1) ∷ [] → e ≡ d → n ≡ 1 → WaitsMore ws d n (news ++ os)
  chunks_more news d e n is same one =
      subst (λ (xs : List (Drawn × ℕ)). WaitsMore xs d n (news ++ os)) view
      (subst (λ (k : ℕ). WaitsMore (cs ++ os) d k (news ++ os)) (sym one)
      (subst (λ (x : Drawn). WaitsMore (cs ++ os) x 1 (news ++ os)) same
      (subst (λ (xs : List (Drawn × ℕ)). WaitsMore (cs ++ os) e 1 (xs ++ os)) (sym is) (short_more e))))

  held_more : (d : Drawn) (n : ℕ) → WaitsMore (cs ++ os) d n (cs ++ with_drawn os d n)
  held_more d n = record {
    sums = λ g. omega (arith, total-append g cs (with_drawn os d n), total-append g cs os, waiting_more g os d n);
    waits = λ a one. all_both cs (with_drawn os d n) (all_front cs os a)
        (all-put_more Waits drawn_cmp os d n (λ p h. record { fit = h.fit; numbered = h.numbered; some = more_some p.1 n h.some }) one (all_back cs os a));
  }

  -- in the map
  pub others_more : (news : List (Drawn × ℕ)) (d : Drawn) (n : ℕ) → news ≡ with_drawn os d n → WaitsMore ws d n (cs ++ news)
  others_more news d n is =
      subst (λ (xs : List (Drawn × ℕ)). WaitsMore xs d n (cs ++ news)) view
      (subst (λ (xs : List (Drawn × ℕ)). WaitsMore (cs ++ os) d n (cs ++ xs)) (sym is) (held_more d n))
