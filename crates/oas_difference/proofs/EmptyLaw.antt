-- The difference is empty exactly if the layouts are the same.
use Rattle.std.proofs.Common.{◌≡◌, ℕ, List, [], ◌∷◌, ◌++◌, flat_map, Bool, true, false, cond, Option, None, Some, is_some, unwrap_or, ◌⊎◌, inl, inr, refl, sym, ◌∙◌, ap, subst, arith}
use Rattle.std.specs.Prelude.{◌==◌, ◌&&◌, ◌-◌, nat_lt, count_by, if◌then◌else◌}
use Rattle.std.proofs.lemmas.Bool.{ltb-true, eqb-true, eq-eqb}
use Rattle.std.proofs.lemmas.Bool.Decides.{nat_tests}
use Rattle.std.proofs.lemmas.List.Sums.{sum_by-cons}
use Rattle.std.specs.Cmp.Lexicographic.{pointwise, texts_ties}
use Rattle.std.specs.Ordering.{match_ordering, nat_cmp, eq_by_cmp}
use Rattle.std.specs.Cmp.{Equal-is}
use Rattle.std.specs.Cmp.Lexicographic.{slice_cmp}
use Rattle.std.specs.declared.cmp.Ordering.{Ordering}
use Rattle.std.specs.declared.cmp.Ordering.TheVariants.{Less, Equal, Greater}
use Rattle.std.specs.List.{AllByRecursion}
use Rattle.std.specs.Map.{keys_of}
use Rattle.std.specs.BTreeSet.{insert_key}
use Rattle.std.proofs.lemmas.Map.Lookups.{CmpEqualImpliesEq, exact_bytes}
use Rattle.oas_num.specs.Ratio.{Ratio}
use Rattle.oas_elements.specs.declared.profile.Profile.{Profile}
use Rattle.oas_elements.specs.declared.element.Element.{Element}
use Rattle.oas_elements.specs.Element.{element_cmp}
use Rattle.oas_elements.specs.Same.{same_element, normal}
use Rattle.oas_elements.specs.Laws.ElementLaws.{exact_elements}
use Rattle.oas_elements.specs.Laws.SameLaws.{same_element-is, same_element-Decides, normal-alike}
use Rattle.oas_elements.specs.Meaning.{Meaning, SameLayout, elements_of, count_of}
use Rattle.oas_difference.specs.Ascending.{ascending}
use Rattle.oas_difference.specs.Changed.{change_at, changed}
use Rattle.oas_diff_text.specs.Entries.{unit_entry, cell_entry}
use Rattle.oas_difference.specs.Format.{notation_of}
use Rattle.oas_difference.specs.Difference.{same_ratio, unit_changes, change_entry, element_changes, below_name, cell_changes, difference}
use Rattle.oas_diff_options.specs.declared.format.Syntax.{Syntax}
use Rattle.oas_diff_options.specs.declared.format.Syntax.TheVariants.{Lines, Json}
use Rattle.oas_diff_options.specs.declared.format.Format.{Format}
use Rattle.oas_difference.specs.declared.notation.Notation.{Notation}
use Rattle.oas_difference.proofs.Steps.{change_first}
use Rattle.oas_difference.specs.Laws.DifferenceLaws.{EmptyIfSame}
use Rattle.oas_difference.specs.Laws.OptionLaws.{SameElements}
use Rattle.oas_diff_options.specs.declared.choice.ChosenLayer.{ChosenLayer}
use Rattle.std.specs.Borrow.{Bor}

-- ---- lists without a line

pub none_twice : {A : Type 0} (xs ys : List A) → xs ++ ys ≡ [] → (xs ≡ []) × (ys ≡ [])
none_twice [] ys e = (refl, e)
none_twice (x ∷ xs) ys e = let no : ⊥ = cc in absurd no

module _ {K A : Type 0} (f : K → List A) where
  none_of_all : ((x : K) → f x ≡ []) → (xs : List K) → flat_map f xs ≡ []
  none_of_all h [] = refl
  none_of_all h (x ∷ xs) = λ i. h x i ++ none_of_all h xs i

  none_inserted : (R : K → K → Ordering) → CmpEqualImpliesEq R → (ks : List K) (k : K) → flat_map f (insert_key R ks k) ≡ [] → (f k ≡ []) × (flat_map f ks ≡ [])
  none_inserted R exact [] k e = none_twice (f k) [] e
  none_inserted R exact (x ∷ xs) k e =
      elim (R k x) as (λ r. R k x ≡ r → flat_map f (match_ordering r (k ∷ x ∷ xs) (x ∷ xs) (x ∷ insert_key R xs k)) ≡ [] → (f k ≡ []) × (flat_map f (x ∷ xs) ≡ [])) [
        | Less ↦ λ q h. none_twice (f k) (flat_map f (x ∷ xs)) h
        | Equal ↦ λ q h. (ap f (exact k x q) ∙ (none_twice (f x) (flat_map f xs) h).0, h)
        | Greater ↦ λ q h.
            let parts = none_twice (f x) (flat_map f (insert_key R xs k)) h in
            let rest = none_inserted R exact xs k parts.1 in
            (rest.0, λ i. parts.0 i ++ rest.1 i)
      ] refl e

  none_of_each : (R : K → K → Ordering) → CmpEqualImpliesEq R → (xs : List K) → flat_map f (ascending R xs) ≡ [] → AllByRecursion (λ x. f x ≡ []) xs
  none_of_each R exact [] e = tt
  none_of_each R exact (x ∷ xs) e =
      let parts = none_inserted R exact (ascending R xs) x e in
      (parts.0, none_of_each R exact xs parts.1)

all_front : {K : Type 0} (P : K → Type 0) (xs ys : List K) → AllByRecursion P (xs ++ ys) → AllByRecursion P xs × AllByRecursion P ys
all_front P [] ys h = (tt, h)
all_front P (x ∷ xs) ys h = let rest = all_front P xs ys h.1 in ((h.0, rest.0), rest.1)

-- ---- a change

pub same_count : (e : Element) (n m : ℕ) → n ≡ m → change_at e n m ≡ []
same_count e n m h = ap (λ (b : Bool). if b then [] else (e, (n, m)) ∷ []) (eq-eqb n m h)

pub counts_alike : (e : Element) (n m : ℕ) → change_at e n m ≡ [] → n ≡ m
counts_alike e n m h = by_cases (n == m) refl h where
  by_cases : (b : Bool) → (n == m) ≡ b → if◌then◌else◌ {A = List (Element × (ℕ × ℕ))} b [] ((e, (n, m)) ∷ []) ≡ [] → n ≡ m
  by_cases true p k = eqb-true n m p
  by_cases false p k = let no : ⊥ = cc in absurd no

-- each change has an entry
pub none_written : (notation : Notation) (name : List ℕ) (cs : List (Element × (ℕ × ℕ))) → flat_map (change_entry notation name) cs ≡ [] → cs ≡ []
none_written notation name [] e = refl
none_written notation name (c ∷ cs) e =
    let some = change_first notation name c in
    let none : some.0 ∷ some.1 ≡ [] = sym some.2 ∙ (none_twice (change_entry notation name c) (flat_map (change_entry notation name) cs) e).0 in
    let no : ⊥ = cc in absurd no

-- ---- the unit

one_ratio : (u : Ratio) → same_ratio u u ≡ true
one_ratio u = ap (λ b. b && (u.den == u.den)) (eq-eqb u.num u.num refl) ∙ eq-eqb u.den u.den refl

ratios_alike : (u v : Ratio) → same_ratio u v ≡ true → u ≡ v
ratios_alike u v e = by_cases (u.num == v.num) refl e where
  by_cases : (b : Bool) → (u.num == v.num) ≡ b → (b && (u.den == v.den)) ≡ true → u ≡ v
  by_cases true p h = λ i. record { num = eqb-true u.num v.num p i; den = eqb-true u.den v.den h i }
  by_cases false p h = let no : ⊥ = cc in absurd no

units_alike : (syntax : Syntax) (u v : Ratio) → unit_changes syntax u v ≡ [] → u ≡ v
units_alike syntax u v e = by_cases (same_ratio u v) refl e where
  some : (syntax : Syntax) → unit_entry syntax 45 u ++ unit_entry syntax 43 v ≡ [] → u ≡ v
  some Lines h = let no : ⊥ = cc in absurd no
  some Json h = let no : ⊥ = cc in absurd no

  by_cases : (b : Bool) → same_ratio u v ≡ b → (if b then [] else unit_entry syntax 45 u ++ unit_entry syntax 43 v) ≡ [] → u ≡ v
  by_cases true p h = ratios_alike u v p
  by_cases false p h = some syntax h

pub one_unit : (syntax : Syntax) (u v : Ratio) → u ≡ v → unit_changes syntax u v ≡ []
one_unit syntax u v e =
    ap (λ w. unit_changes syntax u w) (sym e) ∙ ap (λ b. if b then [] else unit_entry syntax 45 u ++ unit_entry syntax 43 u) (one_ratio u)

-- ---- elements

module _ (profile : Profile) where
  -- an element that is the same as another is the same as what that is
  same_tests : (e x : Element) → same_element profile e x ≡ true → same_element profile e ≡ same_element profile x
  same_tests e x h =
      let alike : normal profile e ≡ normal profile x = normal-alike profile e x ((same_element-Decides profile e x).0 h) in
      λ i q. (same_element-is profile e q ∙ ap (λ k. eq_by_cmp element_cmp k (normal profile q)) alike ∙ sym (same_element-is profile x q)) i

  -- none of the elements is the same as e, or one is, for which P holds
  Seen : (Element → Type 0) → Element → List Element → Type 0
  Seen P e xs = (count_of profile e xs ≡ 0) ⊎ ((x : Element) × (same_element profile e x ≡ true) × P x)

  seen : (P : Element → Type 0) (e : Element) (xs : List Element) → AllByRecursion P xs → Seen P e xs
  unfolding Seen
  seen P e [] h = inl refl
  seen P e (x ∷ xs) h = by_cases (same_element profile e x) refl (seen P e xs h.1) where
    by_cases : (b : Bool) → same_element profile e x ≡ b → Seen P e xs → Seen P e (x ∷ xs)
    by_cases true q later = inr (x, q, h.0)
    by_cases false q (inl none) = inl (sum_by-cons (λ y. cond (same_element profile e y) 1 0) x xs ∙ rw q (omega (arith, none)))
    by_cases false q (inr some) = inr some

  -- elements without a changed count
  module _ (xs ys : List Element) where
    AreAlike : Element → Type 0
    AreAlike e = count_of profile e xs ≡ count_of profile e ys

    from_same : (e x : Element) → same_element profile e x ≡ true → AreAlike x → AreAlike e
    unfolding AreAlike
    from_same e x h k = let tests = same_tests e x h in ap (λ t. count_by t xs) tests ∙ k ∙ ap (λ t. count_by t ys) (sym tests)

    all_alike : AllByRecursion AreAlike (xs ++ ys) → (e : Element) → AreAlike e
    unfolding AreAlike Seen
    all_alike h e =
        let parts = all_front AreAlike xs ys h in
        elim (seen AreAlike e xs parts.0) [
          | inr some ↦ from_same e some.0 some.1 some.2
          | inl none ↦ elim (seen AreAlike e ys parts.1) [
            | inr some ↦ from_same e some.0 some.1 some.2
            | inl neither ↦ none ∙ sym neither
          ]
        ]

    each_alike : (es : List Element) → AllByRecursion (λ e. change_at e (count_of profile e xs) (count_of profile e ys) ≡ []) es → AllByRecursion AreAlike es
    unfolding AreAlike
    each_alike [] h = tt
    each_alike (e ∷ es) h = (counts_alike e _ _ h.0, each_alike es h.1)

    pub elements_alike : changed profile xs ys ≡ [] → (e : Element) → count_of profile e xs ≡ count_of profile e ys
    unfolding AreAlike
    elements_alike h = all_alike (each_alike (xs ++ ys) (none_of_each (λ e. change_at e (count_of profile e xs) (count_of profile e ys)) element_cmp exact_elements (xs ++ ys) h))

    pub same_elements : ((e : Element) → count_of profile e xs ≡ count_of profile e ys) → changed profile xs ys ≡ []
    same_elements h = none_of_all (λ e. change_at e (count_of profile e xs) (count_of profile e ys)) (λ e. same_count e _ _ (h e)) (ascending element_cmp (xs ++ ys))

  -- ---- cells

  pub record OneCell (o p : Option (List Element)) : Type 0 where
    both : is_some o ≡ is_some p
    counts : (e : Element) → count_of profile e (unwrap_or o []) ≡ count_of profile e (unwrap_or p [])

  module _ (notation : Notation) where
    no_line : (syntax : Syntax) (name changes : List ℕ) → below_name syntax true true name changes ≡ [] → changes ≡ []
    no_line syntax name [] h = refl
    no_line Lines name (b ∷ bs) h = let no : ⊥ = cc in absurd no
    no_line Json name (b ∷ bs) h = let no : ⊥ = cc in absurd no

    pub some_cell : (syntax : Syntax) (sign : ℕ) (name changes : List ℕ) → cell_entry syntax sign name ++ changes ≡ [] → ⊥
    some_cell Lines sign name changes h = cc
    some_cell Json sign name changes h = cc

    pub none_changed : (name : List ℕ) (xs ys : List Element) → below_name notation.syntax true true name (element_changes notation name profile xs ys) ≡ [] → changed profile xs ys ≡ []
    none_changed name xs ys h = none_written notation name (changed profile xs ys) (no_line notation.syntax name (element_changes notation name profile xs ys) h)

    pub cell_alike : (name : List ℕ) (o p : Option (List Element)) → cell_changes notation profile name o p ≡ [] → OneCell o p
    cell_alike name None None h = record { both = refl; counts = λ e. refl }
    cell_alike name (Some xs) None h = absurd (some_cell notation.syntax 45 name (element_changes notation name profile xs []) h)
    cell_alike name None (Some ys) h = absurd (some_cell notation.syntax 43 name (element_changes notation name profile [] ys) h)
    cell_alike name (Some xs) (Some ys) h = record { both = refl; counts = elements_alike xs ys (none_changed name xs ys h) }

    nothing_below : (b : Bool) (name : List ℕ) → below_name notation.syntax b b name [] ≡ []
    nothing_below true name = refl
    nothing_below false name = refl

    same_cell : (name : List ℕ) (o p : Option (List Element)) → OneCell o p → cell_changes notation profile name o p ≡ []
    same_cell name o p one =
        ap (λ (cs : List (Element × (ℕ × ℕ))). below_name notation.syntax (is_some o) (is_some p) name (flat_map (change_entry notation name) cs)) (same_elements (unwrap_or o []) (unwrap_or p []) one.counts)
        ∙ ap (λ b. below_name notation.syntax (is_some o) b name []) (sym one.both) ∙ nothing_below (is_some o) name

  -- a name is in the list, and P holds for it, or it has no elements there
  named : (P : List ℕ → Type 0) (name : List ℕ) (cs : List (List ℕ × List Element)) → AllByRecursion P (keys_of cs) → P name ⊎ (elements_of name cs ≡ None)
  named P name [] h = inr refl
  named P name (c ∷ cs) h = by_cases (pointwise ◌==◌ name c.0) refl (named P name cs h.1) where
    by_cases : (b : Bool) → pointwise ◌==◌ name c.0 ≡ b → P name ⊎ (elements_of name cs ≡ None) → P name ⊎ (cond b (Some c.1) (elements_of name cs) ≡ None)
    by_cases true q later = inl (subst P (sym (exact_bytes name c.0 ((Equal-is (slice_cmp nat_cmp name c.0)).0 (sym (texts_ties name c.0) ∙ q)))) h.0)
    by_cases false q later = later

  module _ (format : Format) (a b : Meaning) where
    OneOf : List ℕ → Type 0
    OneOf name = OneCell (elements_of name a.cells) (elements_of name b.cells)

    of_each : (names : List (List ℕ)) → AllByRecursion (λ name. cell_changes (notation_of format a.unit b.unit) profile name (elements_of name a.cells) (elements_of name b.cells) ≡ []) names → AllByRecursion OneOf names
    unfolding OneOf
    of_each [] h = tt
    of_each (name ∷ names) h = (cell_alike (notation_of format a.unit b.unit) name _ _ h.0, of_each names h.1)

    in_neither : (o p : Option (List Element)) → o ≡ None → p ≡ None → OneCell o p
    in_neither o p e f = record { both = ap is_some e ∙ sym (ap is_some f); counts = λ x. ap (λ q. count_of profile x (unwrap_or q [])) e ∙ sym (ap (λ q. count_of profile x (unwrap_or q [])) f) }

    of_all : AllByRecursion OneOf (keys_of a.cells ++ keys_of b.cells) → (name : List ℕ) → OneOf name
    unfolding OneOf
    of_all h name =
        let parts = all_front OneOf (keys_of a.cells) (keys_of b.cells) h in
        elim (named OneOf name a.cells parts.0) [
          | inl one ↦ one
          | inr none ↦ elim (named OneOf name b.cells parts.1) [
            | inl one ↦ one
            | inr neither ↦ in_neither _ _ none neither
          ]
        ]

    lines_of : List ℕ → List ℕ
    lines_of name = cell_changes (notation_of format a.unit b.unit) profile name (elements_of name a.cells) (elements_of name b.cells)

    -- if there is no line, they are the same
    same_from_none : difference None format profile a b ≡ [] → SameLayout profile a b
    unfolding OneOf lines_of
    same_from_none h =
        let parts = none_twice (unit_changes format.syntax a.unit b.unit) _ h in
        let one = of_all (of_each (keys_of a.cells ++ keys_of b.cells) (none_of_each lines_of (slice_cmp nat_cmp) exact_bytes (keys_of a.cells ++ keys_of b.cells) parts.1)) in
        record { unit = units_alike format.syntax a.unit b.unit parts.0; cells = λ name. (one name).both; counts = λ name. (one name).counts }

    -- and if they are the same, there is no line
    none_from_same : SameLayout profile a b → difference None format profile a b ≡ []
    unfolding lines_of
    none_from_same s =
        λ i. one_unit format.syntax a.unit b.unit s.unit i ++ none_of_all lines_of (λ name. same_cell (notation_of format a.unit b.unit) name _ _ (record { both = s.cells name; counts = s.counts name }))
        (ascending (slice_cmp nat_cmp) (keys_of a.cells ++ keys_of b.cells)) i

    -- ---- where only elements are compared

    CountsOf : List ℕ → Type 0
    CountsOf name = (e : Element) → count_of profile e (unwrap_or (elements_of name a.cells) []) ≡ count_of profile e (unwrap_or (elements_of name b.cells) [])

    elements_line : List ℕ → List ℕ
    elements_line name = cell_changes (notation_of format a.unit b.unit) profile name (Some (unwrap_or (elements_of name a.cells) [])) (Some (unwrap_or (elements_of name b.cells) []))

    counts_of : (names : List (List ℕ)) → AllByRecursion (λ name. elements_line name ≡ []) names → AllByRecursion CountsOf names
    unfolding CountsOf elements_line
    counts_of [] h = tt
    counts_of (name ∷ names) h = ((cell_alike (notation_of format a.unit b.unit) name (Some (unwrap_or (elements_of name a.cells) [])) (Some (unwrap_or (elements_of name b.cells) [])) h.0).counts, counts_of names h.1)

    counts_of_all : AllByRecursion CountsOf (keys_of a.cells ++ keys_of b.cells) → (name : List ℕ) → CountsOf name
    unfolding CountsOf
    counts_of_all h name =
        let parts = all_front CountsOf (keys_of a.cells) (keys_of b.cells) h in
        elim (named CountsOf name a.cells parts.0) [
          | inl one ↦ one
          | inr none ↦ elim (named CountsOf name b.cells parts.1) [
            | inl one ↦ one
            | inr neither ↦ λ x. ap (λ q. count_of profile x (unwrap_or q [])) none ∙ sym (ap (λ q. count_of profile x (unwrap_or q [])) neither)
          ]
        ]

    pub elements_from_none : (layers : Bor (List ChosenLayer)) → difference (Some layers) format profile a b ≡ [] → SameElements profile a b
    unfolding CountsOf elements_line
    elements_from_none layers h =
        let parts = none_twice (unit_changes format.syntax a.unit b.unit) _ h in
        let counts = counts_of_all (counts_of (keys_of a.cells ++ keys_of b.cells) (none_of_each elements_line (slice_cmp nat_cmp) exact_bytes (keys_of a.cells ++ keys_of b.cells) parts.1)) in
        record { unit = units_alike format.syntax a.unit b.unit parts.0; counts = counts }

    pub none_from_elements : (layers : Bor (List ChosenLayer)) → SameElements profile a b → difference (Some layers) format profile a b ≡ []
    unfolding elements_line
    none_from_elements layers s =
        λ i. one_unit format.syntax a.unit b.unit s.unit i ++ none_of_all elements_line (λ name. same_cell (notation_of format a.unit b.unit) name (Some (unwrap_or (elements_of name a.cells) [])) (Some (unwrap_or (elements_of name b.cells) [])) (record { both = refl; counts = s.counts name }))
        (ascending (slice_cmp nat_cmp) (keys_of a.cells ++ keys_of b.cells)) i

pub empty_if_same : (format : Format) (profile : Profile) → EmptyIfSame format profile
empty_if_same format profile a b = (same_from_none profile format a b, none_from_same profile format a b)
