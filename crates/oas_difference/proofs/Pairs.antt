-- Two ascending lists of entries side by side, by their first keys.
use Rattle.std.proofs.Common.{◌≡◌, ◌+◌, ◌<◌, List, [], ◌∷◌, ◌++◌, length, map, cond, Option, None, Some, refl, sym, ◌∙◌, ap, subst, arith}
use Rattle.std.specs.Cmp.{IsTotalOrder, tied_itself}
use Rattle.std.specs.Ordering.{is_eq, ordering_reverse}
use Rattle.std.specs.declared.cmp.Ordering.{Ordering}
use Rattle.std.specs.declared.cmp.Ordering.TheVariants.{Less, Equal, Greater}
use Rattle.std.specs.List.{AllByRecursion}
use Rattle.std.specs.List.Sorted.{IsStrictlySortedBy}
use Rattle.std.proofs.lemmas.Map.Keys.{sorted_head, sorted_tail}
use Rattle.std.proofs.lemmas.Map.Lookups.{CmpEqualImpliesEq}
use Rattle.std.specs.Map.{keys_of}
use Rattle.oas_difference.specs.Ascending.{ascending}
use Rattle.oas_difference.specs.Pairs.{found, side_by_side, first_order}
use Rattle.oas_difference.proofs.Ascending.{Below, below_chain, above, all_append, all_ascending, first_before, first_after, first_both}

map_alike : {A B : Type 0} (f g : A → B) (xs : List A) → AllByRecursion (λ x. f x ≡ g x) xs → map f xs ≡ map g xs
map_alike f g [] h = refl
map_alike f g (x ∷ xs) h = λ i. h.0 i ∷ map_alike f g xs h.1 i

all_from : {A : Type 0} (P Q : A → Type 0) (xs : List A) → ((x : A) → P x → Q x) → AllByRecursion P xs → AllByRecursion Q xs
all_from P Q [] f h = tt
all_from P Q (x ∷ xs) f h = (f x h.0, all_from P Q xs f h.1)

module _ {K V : Type 0} {R : K → K → Ordering} (o : IsTotalOrder R) where
  -- the number beside the first key
  found_first : (k : K) (v : V) (es : List (K × V)) → found R ((k, v) ∷ es) k ≡ Some v
  found_first k v es = ap (λ r. cond (is_eq r) (Some v) (found R es k)) (tied_itself o k)

  -- below the first key there is nothing
  found_below : (k : K) (es : List (K × V)) → Below o k (keys_of es) → found R es k ≡ None
  found_below k [] b = refl
  found_below k (e ∷ es) b = ap (λ r. cond (is_eq r) (Some e.1) (found R es k)) b.0 ∙ found_below k es b.1

  -- and what is above it is in the rest
  found_above : (k j : K) (v : V) (es : List (K × V)) → R k j ≡ Less → found R ((k, v) ∷ es) j ≡ found R es j
  found_above k j v es h = ap (λ r. cond (is_eq r) (Some v) (found R es j)) (above o k j h)

  module _ (k : K) (es fs : List (K × V)) (b : Below o k (keys_of es)) (c : Below o k (keys_of fs)) where
    rest_above : Below o k (ascending R (keys_of es ++ keys_of fs))
    rest_above = all_ascending (λ y. R k y ≡ Less) R (keys_of es ++ keys_of fs) (all_append (λ y. R k y ≡ Less) (keys_of es) (keys_of fs) b c)

    -- only the first list has the key
    pub only_before : (v : V) → side_by_side R ((k, v) ∷ es) fs ≡ (k, (Some v, None)) ∷ side_by_side R es fs
    only_before v =
        ap (map (λ j. (j, (found R ((k, v) ∷ es) j, found R fs j)))) (first_before o k (keys_of es) (keys_of fs) b c)
        ∙ (λ i. (k, (found_first k v es i, found_below k fs c i))
        ∷ map_alike (λ j. (j, (found R ((k, v) ∷ es) j, found R fs j))) (λ j. (j, (found R es j, found R fs j))) (ascending R (keys_of es ++ keys_of fs))
        (all_from _ _ _ (λ j h. (λ i. (j, (found_above k j v es h i, found R fs j)))) rest_above) i)

    -- only the second list has it
    pub only_after : (v : V) → side_by_side R es ((k, v) ∷ fs) ≡ (k, (None, Some v)) ∷ side_by_side R es fs
    only_after v =
        ap (map (λ j. (j, (found R es j, found R ((k, v) ∷ fs) j)))) (first_after o k (keys_of es) (keys_of fs) b c)
        ∙ (λ i. (k, (found_below k es b i, found_first k v fs i))
        ∷ map_alike (λ j. (j, (found R es j, found R ((k, v) ∷ fs) j))) (λ j. (j, (found R es j, found R fs j))) (ascending R (keys_of es ++ keys_of fs))
        (all_from _ _ _ (λ j h. (λ i. (j, (found R es j, found_above k j v fs h i)))) rest_above) i)

    -- both have it
    pub in_both : (v w : V) → side_by_side R ((k, v) ∷ es) ((k, w) ∷ fs) ≡ (k, (Some v, Some w)) ∷ side_by_side R es fs
    in_both v w =
        ap (map (λ j. (j, (found R ((k, v) ∷ es) j, found R ((k, w) ∷ fs) j)))) (first_both o k (keys_of es) (keys_of fs) b c)
        ∙ (λ i. (k, (found_first k v es i, found_first k w fs i))
        ∷ map_alike (λ j. (j, (found R ((k, v) ∷ es) j, found R ((k, w) ∷ fs) j))) (λ j. (j, (found R es j, found R fs j)))
        (ascending R (keys_of es ++ keys_of fs)) (all_from _ _ _ (λ j h. (λ i. (j, (found_above k j v es h i, found_above k j w fs h i)))) rest_above) i)

-- ---- the least key taken away

sorted_below : {K : Type 0} {R : K → K → Ordering} (o : IsTotalOrder R) (k : K) (ks : List K) → IsStrictlySortedBy R (k ∷ ks) → Below o k ks
sorted_below {R = R} o k ks s = sorted_head R k ks s

-- the key is the least of two lists, in which these numbers are beside it, and these entries are left without it
pub record Paired {K V : Type 0} (R : K → K → Ordering) (es fs : List (K × V)) (k : K) (v w : Option V) (es' fs' : List (K × V)) : Type 0 where
  pub listed : side_by_side R es fs ≡ (k, (v, w)) ∷ side_by_side R es' fs'
  pub fewer : length es' + length fs' < length es + length fs
  pub before : IsStrictlySortedBy R (keys_of es')
  pub after : IsStrictlySortedBy R (keys_of fs')

module _ {K V : Type 0} (R : K → K → Ordering) where
  -- where neither has a first key both are empty
  pub none_left : (es fs : List (K × V)) → first_order R es fs ≡ None → (es ≡ []) × (fs ≡ [])
  none_left [] [] h = (refl, refl)
  none_left [] (f ∷ fs) h = let no : ⊥ = cc in absurd no
  none_left (e ∷ es) [] h = let no : ⊥ = cc in absurd no
  none_left (e ∷ es) (f ∷ fs) h = let no : ⊥ = cc in absurd no

  -- a list without a first key comes last
  pub none_before : (fs : List (K × V)) (r : Ordering) → first_order R [] fs ≡ Some r → r ≡ Greater
  none_before [] r h = let no : ⊥ = cc in absurd no
  none_before (f ∷ fs) r h = cc

  pub none_after : (es : List (K × V)) (r : Ordering) → first_order R es [] ≡ Some r → r ≡ Less
  none_after [] r h = let no : ⊥ = cc in absurd no
  none_after (e ∷ es) r h = cc

  module _ (o : IsTotalOrder R) (exact : CmpEqualImpliesEq R) where
    at_less : (e : K × V) (es fs : List (K × V)) → IsStrictlySortedBy R (keys_of (e ∷ es)) → IsStrictlySortedBy R (keys_of fs) → first_order R (e ∷ es) fs ≡ Some Less →
        Paired R (e ∷ es) fs e.0 (Some e.1) None es fs
    at_less e es [] s t h = record {
      listed = only_before o e.0 es [] (sorted_below o e.0 (keys_of es) s) tt e.1;
      fewer = omega arith;
      before = sorted_tail R e.0 (keys_of es) s;
      after = t;
    }
    at_less e es (f ∷ fs) s t h =
        let less : R e.0 f.0 ≡ Less = cc in
        record {
          listed = only_before o e.0 es (f ∷ fs) (sorted_below o e.0 (keys_of es) s) (less, below_chain o e.0 f.0 (keys_of fs) less (sorted_below o f.0 (keys_of fs) t)) e.1;
          fewer = omega arith;
          before = sorted_tail R e.0 (keys_of es) s;
          after = t;
        }

    at_greater : (f : K × V) (es fs : List (K × V)) → IsStrictlySortedBy R (keys_of es) → IsStrictlySortedBy R (keys_of (f ∷ fs)) → first_order R es (f ∷ fs) ≡ Some Greater →
        Paired R es (f ∷ fs) f.0 None (Some f.1) es fs
    at_greater f [] fs s t h = record {
      listed = only_after o f.0 [] fs tt (sorted_below o f.0 (keys_of fs) t) f.1;
      fewer = omega arith;
      before = s;
      after = sorted_tail R f.0 (keys_of fs) t;
    }
    at_greater f (e ∷ es) fs s t h =
        let greater : R e.0 f.0 ≡ Greater = cc in
        let less : R f.0 e.0 ≡ Less = o.antisymm f.0 e.0 ∙ ap ordering_reverse greater in
        record {
          listed = only_after o f.0 (e ∷ es) fs (less, below_chain o f.0 e.0 (keys_of es) less (sorted_below o e.0 (keys_of es) s)) (sorted_below o f.0 (keys_of fs) t) f.1;
          fewer = omega arith;
          before = s;
          after = sorted_tail R f.0 (keys_of fs) t;
        }

    at_both : (k : K) (v w : V) (es fs : List (K × V)) → IsStrictlySortedBy R (keys_of ((k, v) ∷ es)) → IsStrictlySortedBy R (keys_of ((k, w) ∷ fs)) →
        Paired R ((k, v) ∷ es) ((k, w) ∷ fs) k (Some v) (Some w) es fs
    at_both k v w es fs s t = record {
      listed = in_both o k es fs (sorted_below o k (keys_of es) s) (sorted_below o k (keys_of fs) t) v w;
      fewer = omega arith;
      before = sorted_tail R k (keys_of es) s;
      after = sorted_tail R k (keys_of fs) t;
    }

    at_equal : (e f : K × V) (es fs : List (K × V)) → IsStrictlySortedBy R (keys_of (e ∷ es)) → IsStrictlySortedBy R (keys_of (f ∷ fs)) → first_order R (e ∷ es) (f ∷ fs) ≡ Some Equal →
        Paired R (e ∷ es) (f ∷ fs) e.0 (Some e.1) (Some f.1) es fs
    at_equal e f es fs s t h =
        let tied : R e.0 f.0 ≡ Equal = cc in
        let same : e.0 ≡ f.0 = exact e.0 f.0 tied in
        subst (λ (j : K). Paired R (e ∷ es) ((j, f.1) ∷ fs) e.0 (Some e.1) (Some f.1) es fs) same
        (at_both e.0 e.1 f.1 es fs s (subst (λ (j : K). IsStrictlySortedBy R (j ∷ keys_of fs)) (sym same) t))

    -- The first key of the first list is the least, of the second, or of both.
    module _ (es fs : List (K × V)) (s : IsStrictlySortedBy R (keys_of es)) (t : IsStrictlySortedBy R (keys_of fs)) where
      pub least_before : (e : K × V) (es' : List (K × V)) → es ≡ e ∷ es' → first_order R es fs ≡ Some Less → Paired R es fs e.0 (Some e.1) None es' fs
      least_before e es' is h = subst (λ (l : List (K × V)). Paired R l fs e.0 (Some e.1) None es' fs) (sym is)
          (at_less e es' fs (subst (λ (l : List (K × V)). IsStrictlySortedBy R (keys_of l)) is s) t (subst (λ (l : List (K × V)). first_order R l fs ≡ Some Less) is h))

      pub least_after : (f : K × V) (fs' : List (K × V)) → fs ≡ f ∷ fs' → first_order R es fs ≡ Some Greater → Paired R es fs f.0 None (Some f.1) es fs'
      least_after f fs' is h = subst (λ (l : List (K × V)). Paired R es l f.0 None (Some f.1) es fs') (sym is)
          (at_greater f es fs' s (subst (λ (l : List (K × V)). IsStrictlySortedBy R (keys_of l)) is t) (subst (λ (l : List (K × V)). first_order R es l ≡ Some Greater) is h))

      pub least_both : (e f : K × V) (es' fs' : List (K × V)) → es ≡ e ∷ es' → fs ≡ f ∷ fs' → first_order R es fs ≡ Some Equal → Paired R es fs e.0 (Some e.1) (Some f.1) es' fs'
      least_both e f es' fs' is are h =
          subst (λ (l : List (K × V)). Paired R l fs e.0 (Some e.1) (Some f.1) es' fs') (sym is)
          (subst (λ (l : List (K × V)). Paired R (e ∷ es') l e.0 (Some e.1) (Some f.1) es' fs') (sym are)
          (at_equal e f es' fs' (subst (λ (l : List (K × V)). IsStrictlySortedBy R (keys_of l)) is s) (subst (λ (l : List (K × V)). IsStrictlySortedBy R (keys_of l)) are t)
          (subst (λ (l : List (K × V)). first_order R (e ∷ es') l ≡ Some Equal) are (subst (λ (l : List (K × V)). first_order R l fs ≡ Some Equal) is h))))
