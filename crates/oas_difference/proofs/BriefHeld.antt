-- The difference in brief is that of what is held.
use Rattle.std.proofs.Common.{◌≡◌, ℕ, ◌+◌, ◌<◌, ◌≤◌, ◌^◌, List, [], ◌∷◌, ◌++◌, length, flat_map, sum_by, Bool, true, false, cond, Option, None, Some, is_some, unwrap_or, refl, sym}
use Rattle.std.proofs.Common.{◌∙◌, ap, subst, arith}
use Rattle.std.specs.Prelude.{◌-◌, ◌==◌, ◌==◌, option_map, IfSome, if◌then◌else◌}
use Rattle.std.specs.Borrow.{Bor}
use Rattle.std.specs.Ordering.{nat_cmp}
use Rattle.std.specs.Cmp.Lexicographic.{slice_cmp}
use Rattle.std.specs.List.{AllByRecursion}
use Rattle.std.specs.Map.{keys_of, lookup}
use Rattle.std.specs.BTreeMap.{is_at}
use Rattle.std.proofs.lemmas.Bool.{eqb-true}
use Rattle.std.proofs.lemmas.List.Folds.{flat_map-map}
use Rattle.std.proofs.lemmas.List.Sums.{sum_by-cons}
use Rattle.oas_elements.specs.declared.profile.Profile.{Profile}
use Rattle.oas_elements.specs.declared.element.Element.{Element}
use Rattle.oas_elements.specs.Element.{element_cmp}
use Rattle.oas_elements.specs.Laws.ElementLaws.{element_total, exact_elements}
use Rattle.oas_elements.specs.Same.{IsNormal}
use Rattle.oas_elements.specs.Bag.{items, IsBag}
use Rattle.oas_elements.specs.Meaning.{elements_of, element_count, count_of}
use Rattle.oas_elements.specs.Contents.{Cell, Contents, expanded, meaning_of, IsCell, IsLayout}
use Rattle.oas_diff_options.specs.declared.options.Detail.{Detail}
use Rattle.oas_diff_options.specs.declared.options.Detail.TheVariants.{Elements, Counts}
use Rattle.oas_difference.specs.Ascending.{ascending}
use Rattle.oas_difference.specs.Pairs.{found}
use Rattle.oas_difference.specs.Changed.{change_at, changed}
use Rattle.oas_difference.specs.Difference.{unit_changes}
use Rattle.oas_difference.specs.Format.{notation_of}
use Rattle.oas_difference.specs.Brief.{only_first, only_second, brief_of, cell_brief}
use Rattle.oas_difference.specs.Held.{pair_changed, held_changed, held_brief, held_lines, cell_pairs}
use Rattle.oas_diff_text.specs.Microns.{counted_to}
use Rattle.oas_diff_options.specs.declared.format.Syntax.{Syntax}
use Rattle.oas_diff_options.specs.declared.format.Format.{Format}
use Rattle.oas_difference.specs.Options.{detailed}
use Rattle.oas_diff_options.specs.Choice.{or_empty}
use Rattle.oas_diff_options.specs.declared.choice.ChosenLayer.{ChosenLayer}
use Rattle.oas_difference.proofs.Held.{changed_held, there, the_items, bag_of, or_bag, bag_at, or_items, elements_found, keys_held, pairs_are, difference_held}
use Rattle.oas_difference.proofs.Sums.{sorted_ascending, weight_if, sum_found}
use Rattle.oas_difference.proofs.Lengths.{unwrapped, held_length}

-- ---- a change more or less

sum_change : (f : Element × (ℕ × ℕ) → ℕ) (e : Element) (n m : ℕ) (rest : List (Element × (ℕ × ℕ))) → (n ≡ m → f (e, (n, m)) ≡ 0) → sum_by f (change_at e n m ++ rest) ≡ f (e, (n, m)) + sum_by f rest
sum_change f e n m rest none = by_test (n == m) refl where
  by_test : (b : Bool) → (n == m) ≡ b → sum_by f ((if b then [] else (e, (n, m)) ∷ []) ++ rest) ≡ f (e, (n, m)) + sum_by f rest
  by_test true q = omega (arith, none (eqb-true n m q))
  by_test false q = sum_by-cons f (e, (n, m)) rest

pub first_more : (e : Element) (n m : ℕ) (rest : List (Element × (ℕ × ℕ))) → only_first (change_at e n m ++ rest) ≡ (n - m) + only_first rest
first_more e n m rest = sum_change (λ c. c.1.0 - c.1.1) e n m rest (λ q. omega (arith, q))

pub second_more : (e : Element) (n m : ℕ) (rest : List (Element × (ℕ × ℕ))) → only_second (change_at e n m ++ rest) ≡ (m - n) + only_second rest
second_more e n m rest = sum_change (λ c. c.1.1 - c.1.0) e n m rest (λ q. omega (arith, q))

-- ---- they are not more than there are

-- how many are beside a key
abbrev beside : Element → Option ℕ → ℕ
beside = weight_if element_cmp element_total exact_elements (λ e n. n)

module _ (es fs : List (Element × ℕ)) where
  lines : List Element → List (Element × (ℕ × ℕ))
  lines ks = flat_map (λ k. pair_changed (k, (found element_cmp es k, found element_cmp fs k))) ks

  first_few : (ks : List Element) → only_first (lines ks) ≤ sum_by (λ k. beside k (found element_cmp es k)) ks
  unfolding lines
  first_few [] = omega arith
  first_few (k ∷ ks) =
      omega (
        arith,
        first_more k (unwrap_or (found element_cmp es k) 0) (unwrap_or (found element_cmp fs k) 0) (lines ks),
        unwrapped k (found element_cmp es k),
        sum_by-cons (λ k. beside k (found element_cmp es k)) k ks,
        first_few ks,
      )

  second_few : (ks : List Element) → only_second (lines ks) ≤ sum_by (λ k. beside k (found element_cmp fs k)) ks
  unfolding lines
  second_few [] = omega arith
  second_few (k ∷ ks) =
      omega (
        arith,
        second_more k (unwrap_or (found element_cmp es k) 0) (unwrap_or (found element_cmp fs k) 0) (lines ks),
        unwrapped k (found element_cmp fs k),
        sum_by-cons (λ k. beside k (found element_cmp fs k)) k ks,
        second_few ks,
      )

  both : List Element
  both = ascending element_cmp (keys_of es ++ keys_of fs)

  listed : held_changed es fs ≡ lines both
  unfolding lines both
  listed = flat_map-map pair_changed (λ k. (k, (found element_cmp es k, found element_cmp fs k))) both

  first_short : only_first (held_changed es fs) ≤ length (items es)
  unfolding both
  first_short =
      omega (
        arith,
        ap only_first listed,
        first_few both,
        sum_found element_cmp element_total exact_elements (λ e n. n) both (sorted_ascending element_cmp element_total (keys_of es ++ keys_of fs)) es,
        held_length es,
      )

  second_short : only_second (held_changed es fs) ≤ length (items fs)
  unfolding both
  second_short =
      omega (
        arith,
        ap only_second listed,
        second_few both,
        sum_found element_cmp element_total exact_elements (λ e n. n) both (sorted_ascending element_cmp element_total (keys_of es ++ keys_of fs)) fs,
        held_length fs,
      )

  fits_first : length (items es) < 2 ^ 64 → only_first (held_changed es fs) ≡ counted_to (only_first (held_changed es fs))
  fits_first h = omega (arith, h, first_short)

  fits_second : length (items fs) < 2 ^ 64 → only_second (held_changed es fs) ≡ counted_to (only_second (held_changed es fs))
  fits_second h = omega (arith, h, second_short)

-- ---- the elements of a cell

module _ (profile : Profile) (es fs : List (Element × ℕ)) (b : IsBag profile es) (c : IsBag profile fs) where
  module _ (few : length (items es) < 2 ^ 64) (less : length (items fs) < 2 ^ 64) where
    first_held : only_first (changed profile (items es) (items fs)) ≡ counted_to (only_first (held_changed es fs))
    first_held = ap only_first (changed_held profile es fs b c) ∙ fits_first es fs few

    second_held : only_second (changed profile (items es) (items fs)) ≡ counted_to (only_second (held_changed es fs))
    second_held = ap only_second (changed_held profile es fs b c) ∙ fits_second es fs less

-- ---- a cell

IsFew : List (Element × ℕ) → Type 0
IsFew es = length (items es) < 2 ^ 64

few_of : (o : Option (List (Element × ℕ))) → IfSome o IsFew → IsFew (unwrap_or o [])
unfolding IsFew
few_of None h = omega arith
few_of (Some es) h = h

or_few : (layers : Option (Bor (List ChosenLayer))) (o : Option (List (Element × ℕ))) → IfSome o IsFew → IfSome (or_empty layers o) IsFew
or_few None o h = h
or_few (Some l) o h = few_of o h

few_at : (test : List ℕ → Bool) (cs : List Cell) → AllByRecursion (λ c. IsFew c.1) cs → IfSome (lookup test cs) IsFew
few_at test [] h = tt
few_at test (c ∷ cs) h = elim (test c.0) as (λ b. IfSome (cond b (Some c.1) (lookup test cs)) IsFew) [ true ↦ h.0 | false ↦ few_at test cs h.1 ]

all_few : (cs : List Cell) → element_count (expanded cs) < 2 ^ 64 → AllByRecursion (λ c. IsFew c.1) cs
unfolding IsFew
all_few [] h = tt
all_few (c ∷ cs) h = (omega (arith, h), all_few cs (omega (arith, h)))

brief_held : (syntax : Syntax) (profile : Profile) (name : List ℕ) (o p : Option (List (Element × ℕ))) → IfSome o (IsBag profile) → IfSome p (IsBag profile) → IfSome o IsFew →
    IfSome p IsFew → cell_brief syntax profile name (option_map items o) (option_map items p) ≡ held_brief syntax (name, (o, p))
unfolding IsFew
brief_held syntax profile name o p b c few less =
    let es = unwrap_or o [] in
    let fs = unwrap_or p [] in
    let d = bag_of profile o b in
    let e = bag_of profile p c in
    (λ i. brief_of syntax (there profile o i) (there profile p i) name (only_first (changed profile (the_items profile o i) (the_items profile p i)))
    (only_second (changed profile (the_items profile o i) (the_items profile p i))))
    ∙ (λ i. brief_of syntax (is_some o) (is_some p) name (first_held profile es fs d e (few_of o few) (few_of p less) i) (second_held profile es fs d e (few_of o few) (few_of p less) i))

-- ---- the cells

module _ (syntax : Syntax) (profile : Profile) (layers : Option (Bor (List ChosenLayer))) (cs ds : List Cell) (p : AllByRecursion (IsCell profile) cs) (q : AllByRecursion (IsCell profile) ds)
    (few : AllByRecursion (λ c. IsFew c.1) cs) (less : AllByRecursion (λ c. IsFew c.1) ds) where
  line_held : (name : List ℕ) → cell_brief syntax profile name (or_empty layers (elements_of name (expanded cs))) (or_empty layers (elements_of name (expanded ds)))
      ≡ held_brief syntax (name, (or_empty layers (found (slice_cmp nat_cmp) cs name), or_empty layers (found (slice_cmp nat_cmp) ds name)))
  line_held name =
      let at = is_at (slice_cmp nat_cmp name) in
      let o = found (slice_cmp nat_cmp) cs name in
      let r = found (slice_cmp nat_cmp) ds name in
      (λ i. cell_brief syntax profile name (or_empty layers (elements_found name cs i)) (or_empty layers (elements_found name ds i)))
      ∙ (λ i. cell_brief syntax profile name (or_items layers o i) (or_items layers r i))
      ∙ brief_held syntax profile name (or_empty layers o) (or_empty layers r) (or_bag profile layers o (bag_at profile at cs p)) (or_bag profile layers r (bag_at profile at ds q))
      (or_few layers o (few_at at cs few)) (or_few layers r (few_at at ds less))

  lines_held : flat_map (λ name. cell_brief syntax profile name (or_empty layers (elements_of name (expanded cs))) (or_empty layers (elements_of name (expanded ds))))
      (ascending (slice_cmp nat_cmp) (keys_of (expanded cs) ++ keys_of (expanded ds))) ≡ flat_map (held_brief syntax) (cell_pairs layers cs ds)
  lines_held =
      (λ i. flat_map (λ name. line_held name i) (ascending (slice_cmp nat_cmp) (keys_held cs i ++ keys_held ds i)))
      ∙ sym (pairs_are layers (held_brief syntax) cs ds)

-- the entries of the units, and then those of the cells that are held
pub detailed_held : (layers : Option (Bor (List ChosenLayer))) (detail : Detail) (format : Format) (a b : Contents) → IsLayout a → IsLayout b → a.profile ≡ b.profile →
    detailed layers detail format a.profile (meaning_of a) (meaning_of b)
    ≡ unit_changes format.syntax a.unit b.unit ++ held_lines layers detail (notation_of format a.unit b.unit) a.cells b.cells
detailed_held layers Elements format a b k l alike = difference_held layers format a b k l alike
detailed_held layers Counts format a b k l alike =
    let cells = subst (λ p. AllByRecursion (IsCell p) b.cells) (sym alike) l.cells in
    ap (λ (text : List ℕ). unit_changes format.syntax a.unit b.unit ++ text)
    (lines_held format.syntax a.profile layers a.cells b.cells k.cells cells (all_few a.cells (omega (arith, k.few, k.limits.few))) (all_few b.cells (omega (arith, l.few, l.limits.few))))
