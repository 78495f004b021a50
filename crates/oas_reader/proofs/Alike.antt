-- Cells that are drawn alike mean the same.
use Rattle.std.proofs.Common.{◌≡◌, ℕ, ◌+◌, List, [], ◌∷◌, Bool, true, false, cond, ◌||◌, Option, None, Some, is_some, unwrap_or, refl, sym, ◌∙◌, ap, arith}
use Rattle.std.specs.Prelude.{sum_by, nat_lt, ◌==◌, is_none}
use Rattle.std.specs.List.{list_any}
use Rattle.std.specs.Map.{keys_of}
use Rattle.std.specs.Cmp.Lexicographic.{pointwise}
use Rattle.std.proofs.lemmas.List.Sums.{sum_by-cons}
use Rattle.std.proofs.lemmas.Bool.Decides.{nat_tests}
use Rattle.oas_num.specs.declared.refusals.Why.TheVariants.{UnknownReference, DuplicateCell, TooHeavy}
use Rattle.oas_elements.specs.declared.element.Element.{Element}
use Rattle.oas_elements.specs.declared.profile.Profile.{Profile}
use Rattle.oas_elements.specs.Same.{same_element}
use Rattle.oas_elements.specs.Weight.{weight_of}
use Rattle.oas_elements.specs.Meaning.{elements_of, count_of, cells_weight}
use Rattle.oas_drawing.specs.declared.drawn.Drawn.{Drawn}
use Rattle.oas_reader.specs.References.{cell_by}
use Rattle.oas_reader.specs.Meaning.{DrawnCell, element_by, with_element, elements_by_name, with_named, cells_by_name, is_unnamed, cell_lacks, lacks_name, has_twice}
use Rattle.oas_reader.specs.Alike.{SameDrawn, AlikeCells, AlikeMeanings}

-- a test passes where the sum of those that pass is above 0
pub any-sum : (f : Drawn → Bool) (xs : List Drawn) → list_any f xs ≡ nat_lt 0 (sum_by (λ x. cond (f x) 1 0) xs)
any-sum f [] = refl
any-sum f (x ∷ xs) = by (f x) (any-sum f xs) ∙ ap (nat_lt 0) (sym (sum_by-cons (λ y. cond (f y) 1 0) x xs)) where
  by : (b : Bool) → list_any f xs ≡ nat_lt 0 (sum_by (λ y. cond (f y) 1 0) xs) → (b || list_any f xs) ≡ nat_lt 0 (cond b 1 0 + sum_by (λ y. cond (f y) 1 0) xs)
  by true later = grind (arith, nat_tests)
  by false later = let same : sum_by (λ y. cond (f y) 1 0) xs ≡ 0 + sum_by (λ y. cond (f y) 1 0) xs = omega arith in later ∙ ap (nat_lt 0) same

-- the weight of an element that may be there
abbrev pub weighed : (Element → ℕ) → Option Element → ℕ
weighed g None = 0
weighed g (Some e) = g e

module _ (names strings : List (ℕ × List ℕ)) where
  -- a sum over the elements that are meant
  pub sum-meant : (g : Element → ℕ) (xs : List Drawn) → sum_by g (elements_by_name names strings xs) ≡ sum_by (λ d. weighed g (element_by names strings d)) xs
  sum-meant g [] = refl
  sum-meant g (x ∷ xs) = by (element_by names strings x) ∙ ap (λ (k : ℕ). weighed g (element_by names strings x) + k) (sum-meant g xs)
      ∙ sym (sum_by-cons (λ d. weighed g (element_by names strings d)) x xs) where
        by : (o : Option Element) → sum_by g (with_element o (elements_by_name names strings xs)) ≡ weighed g o + sum_by g (elements_by_name names strings xs)
        by None = omega arith
        by (Some e) = sum_by-cons g e (elements_by_name names strings xs)

  -- is the same where they are drawn alike
  sum-alike : (g : Element → ℕ) (xs ys : List Drawn) → SameDrawn xs ys → sum_by g (elements_by_name names strings xs) ≡ sum_by g (elements_by_name names strings ys)
  sum-alike g xs ys s = sum-meant g xs ∙ s.sums (λ d. weighed g (element_by names strings d)) ∙ sym (sum-meant g ys)

  -- they lack the same
  lacks-alike : (c d : DrawnCell) → c.0 ≡ d.0 → SameDrawn c.1 d.1 → cell_lacks names strings c ≡ cell_lacks names strings d
  lacks-alike c d e s =
      let one : list_any (is_unnamed names strings) c.1 ≡ list_any (is_unnamed names strings) d.1 =
      any-sum (is_unnamed names strings) c.1 ∙ ap (nat_lt 0) (s.sums (λ x. cond (is_unnamed names strings x) 1 0)) ∙ sym (any-sum (is_unnamed names strings) d.1) in
      λ i. is_none (cell_by names (e i)) || one i

  all-lack : (cs ds : List DrawnCell) → AlikeCells cs ds → lacks_name names strings cs ≡ lacks_name names strings ds
  all-lack [] [] a = refl
  all-lack [] (d ∷ ds) a = absurd a
  all-lack (c ∷ cs) [] a = absurd a
  all-lack (c ∷ cs) (d ∷ ds) a = λ i. lacks-alike c d a.0 a.1 i || all-lack cs ds a.2 i

  -- have the same names
  names-alike : (cs ds : List DrawnCell) → AlikeCells cs ds → keys_of (cells_by_name names strings cs) ≡ keys_of (cells_by_name names strings ds)
  names-alike [] [] a = refl
  names-alike [] (d ∷ ds) a = absurd a
  names-alike (c ∷ cs) [] a = absurd a
  names-alike (c ∷ cs) (d ∷ ds) a =
      by (cell_by names c.0) (names-alike cs ds a.2) ∙ ap (λ r. keys_of (with_named (cell_by names r) (elements_by_name names strings d.1) (cells_by_name names strings ds))) a.0 where
        by : (o : Option (List ℕ)) → keys_of (cells_by_name names strings cs) ≡ keys_of (cells_by_name names strings ds)
            → keys_of (with_named o (elements_by_name names strings c.1) (cells_by_name names strings cs)) ≡ keys_of (with_named o (elements_by_name names strings d.1) (cells_by_name names strings ds))
        by None h = h
        by (Some name) h = ap (λ (ns : List (List ℕ)). name ∷ ns) h

  -- weigh the same
  weight-alike : (cs ds : List DrawnCell) → AlikeCells cs ds → cells_weight (cells_by_name names strings cs) ≡ cells_weight (cells_by_name names strings ds)
  weight-alike [] [] a = refl
  weight-alike [] (d ∷ ds) a = absurd a
  weight-alike (c ∷ cs) [] a = absurd a
  weight-alike (c ∷ cs) (d ∷ ds) a =
      by (cell_by names c.0) (weight-alike cs ds a.2) (sum-alike weight_of c.1 d.1 a.1)
      ∙ ap (λ r. cells_weight (with_named (cell_by names r) (elements_by_name names strings d.1) (cells_by_name names strings ds))) a.0 where
        by : (o : Option (List ℕ)) → cells_weight (cells_by_name names strings cs) ≡ cells_weight (cells_by_name names strings ds) → sum_by weight_of (elements_by_name names strings c.1)
            ≡ sum_by weight_of (elements_by_name names strings d.1) → cells_weight (with_named o (elements_by_name names strings c.1) (cells_by_name names strings cs))
            ≡ cells_weight (with_named o (elements_by_name names strings d.1) (cells_by_name names strings ds))
        by None h w = h
        by (Some name) h w = omega (arith, h, w)

  -- and hold the same of each element
  there-alike : (name : List ℕ) (cs ds : List DrawnCell) → AlikeCells cs ds → is_some (elements_of name (cells_by_name names strings cs)) ≡ is_some (elements_of name (cells_by_name names strings ds))
  there-alike name [] [] a = refl
  there-alike name [] (d ∷ ds) a = absurd a
  there-alike name (c ∷ cs) [] a = absurd a
  there-alike name (c ∷ cs) (d ∷ ds) a =
      by (cell_by names c.0) (there-alike name cs ds a.2)
      ∙ ap (λ r. is_some (elements_of name (with_named (cell_by names r) (elements_by_name names strings d.1) (cells_by_name names strings ds)))) a.0 where
        by : (o : Option (List ℕ)) → is_some (elements_of name (cells_by_name names strings cs)) ≡ is_some (elements_of name (cells_by_name names strings ds))
            → is_some (elements_of name (with_named o (elements_by_name names strings c.1) (cells_by_name names strings cs)))
            ≡ is_some (elements_of name (with_named o (elements_by_name names strings d.1) (cells_by_name names strings ds)))
        by None h = h
        by (Some n) h = elim (pointwise ◌==◌ name n) as (λ b. is_some (cond b (Some (elements_by_name names strings c.1)) (elements_of name (cells_by_name names strings cs)))
            ≡ is_some (cond b (Some (elements_by_name names strings d.1)) (elements_of name (cells_by_name names strings ds)))) [ true ↦ refl | false ↦ h ]

  counts-alike : (profile : Profile) (name : List ℕ) (q : Element) (cs ds : List DrawnCell) → AlikeCells cs ds
      → count_of profile q (unwrap_or (elements_of name (cells_by_name names strings cs)) []) ≡ count_of profile q (unwrap_or (elements_of name (cells_by_name names strings ds)) [])
  counts-alike profile name q [] [] a = refl
  counts-alike profile name q [] (d ∷ ds) a = absurd a
  counts-alike profile name q (c ∷ cs) [] a = absurd a
  counts-alike profile name q (c ∷ cs) (d ∷ ds) a =
      by (cell_by names c.0) (counts-alike profile name q cs ds a.2) (sum-alike (λ x. cond (same_element profile q x) 1 0) c.1 d.1 a.1)
      ∙ ap (λ r. count_of profile q (unwrap_or (elements_of name (with_named (cell_by names r) (elements_by_name names strings d.1) (cells_by_name names strings ds))) [])) a.0 where
        by : (o : Option (List ℕ)) → count_of profile q (unwrap_or (elements_of name (cells_by_name names strings cs)) [])
            ≡ count_of profile q (unwrap_or (elements_of name (cells_by_name names strings ds)) []) → count_of profile q (elements_by_name names strings c.1)
            ≡ count_of profile q (elements_by_name names strings d.1)
            → count_of profile q (unwrap_or (elements_of name (with_named o (elements_by_name names strings c.1) (cells_by_name names strings cs))) [])
            ≡ count_of profile q (unwrap_or (elements_of name (with_named o (elements_by_name names strings d.1) (cells_by_name names strings ds))) [])
        by None h w = h
        by (Some n) h w = elim (pointwise ◌==◌ name n) as
            (λ b. count_of profile q (unwrap_or (cond b (Some (elements_by_name names strings c.1)) (elements_of name (cells_by_name names strings cs))) [])
            ≡ count_of profile q (unwrap_or (cond b (Some (elements_by_name names strings d.1)) (elements_of name (cells_by_name names strings ds))) [])) [ true ↦ w | false ↦ h ]

-- so END refuses them alike, and they mean the same
pub alike_meanings : AlikeMeanings
alike_meanings names strings limits unit profile cs ds a = record {
  refused = λ i. cond (all-lack names strings cs ds a i) (Some UnknownReference)
      (cond (has_twice (names-alike names strings cs ds a i)) (Some DuplicateCell) (cond (nat_lt limits.weight (weight-alike names strings cs ds a i)) (Some TooHeavy) None));
  same = record {
    unit = refl;
    cells = λ name. there-alike names strings name cs ds a;
    counts = λ name q. counts-alike names strings profile name q cs ds a;
  };
}
