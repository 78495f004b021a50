-- With all options nothing is written exactly if what they compare of the layouts is the same.
use Rattle.std.proofs.Common.{◌≡◌, ℕ, zero, suc, List, [], ◌∷◌, ◌++◌, flat_map, Bool, true, false, Option, None, Some, refl, ◌∙◌, ap, arith}
use Rattle.std.specs.Prelude.{◌==◌, ◌&&◌, ◌↔◌, if◌then◌else◌}
use Rattle.std.specs.Borrow.{Bor}
use Rattle.std.specs.Ordering.{nat_cmp}
use Rattle.std.specs.Cmp.Lexicographic.{slice_cmp}
use Rattle.std.specs.Map.{keys_of}
use Rattle.std.specs.List.{AllByRecursion}
use Rattle.std.proofs.lemmas.Bool.{eqb-true}
use Rattle.oas_elements.specs.declared.profile.Profile.{Profile}
use Rattle.oas_elements.specs.declared.element.Element.{Element}
use Rattle.oas_elements.specs.Element.{element_cmp}
use Rattle.oas_elements.specs.Meaning.{Meaning, elements_of, count_of}
use Rattle.oas_diff_options.specs.declared.choice.ChosenLayer.{ChosenLayer}
use Rattle.oas_diff_options.specs.declared.options.Detail.{Detail}
use Rattle.oas_diff_options.specs.declared.options.Detail.TheVariants.{Elements, Counts}
use Rattle.oas_diff_options.specs.declared.options.Options.{Options}
use Rattle.oas_difference.specs.Ascending.{ascending}
use Rattle.oas_difference.specs.Changed.{change_at, changed}
use Rattle.oas_difference.specs.Format.{notation_of}
use Rattle.oas_difference.specs.Difference.{unit_changes, change_entry, element_changes, below_name, cell_changes, difference}
use Rattle.oas_difference.specs.Brief.{only_first, only_second, signed_brief, brief_sign, cell_brief, brief}
use Rattle.oas_diff_text.specs.Entries.{brief_entry}
use Rattle.oas_diff_options.specs.declared.format.Syntax.{Syntax}
use Rattle.oas_diff_options.specs.declared.format.Syntax.TheVariants.{Lines, Json}
use Rattle.oas_diff_options.specs.declared.format.Format.{Format}
use Rattle.oas_difference.specs.declared.notation.Notation.{Notation}
use Rattle.oas_difference.specs.Limited.{limited}
use Rattle.oas_diff_options.specs.Choice.{chosen, or_empty}
use Rattle.oas_difference.specs.Options.{detailed}
use Rattle.oas_difference.specs.Laws.OptionLaws.{SameBy, EmptyByOptions}
use Rattle.oas_difference.proofs.BriefHeld.{first_more, second_more}
use Rattle.oas_difference.proofs.EmptyLaw.{none_twice, same_count, none_changed, some_cell, empty_if_same, elements_from_none, none_from_elements}

-- ---- the first lines of a text

none_limited : (s : Syntax) (o : Option ℕ) (text : List ℕ) → text ≡ [] → limited s o text ≡ []
none_limited s o text e = ap (limited s o) e ∙ of_none o where
  of_none : (o : Option ℕ) → limited s o [] ≡ []
  of_none None = refl
  of_none (Some zero) = refl
  of_none (Some (suc n)) = refl

limited_none : (s : Syntax) (o : Option ℕ) (text : List ℕ) → limited s o text ≡ [] → text ≡ []
limited_none s None text e = e
limited_none s (Some n) [] e = refl
limited_none Lines (Some zero) (b ∷ bs) e = let no : ⊥ = cc in absurd no
limited_none Json (Some zero) (b ∷ bs) e = let no : ⊥ = cc in absurd no
limited_none s (Some (suc n)) (b ∷ bs) e = let no : ⊥ = cc in absurd no

-- ---- the elements of a cell

module _ (profile : Profile) (xs ys : List Element) where
  before : Element → ℕ
  before e = count_of profile e xs

  after : Element → ℕ
  after e = count_of profile e ys

  -- none of these elements has changed
  Quiet : List Element → Type 0
  Quiet ks = AllByRecursion (λ e. before e ≡ after e) ks

  entries : List Element → List (Element × (ℕ × ℕ))
  entries ks = flat_map (λ e. change_at e (before e) (after e)) ks

  quiet_sums : (ks : List Element) → only_first (entries ks) ≡ 0 → only_second (entries ks) ≡ 0 → Quiet ks
  unfolding Quiet entries
  quiet_sums [] p q = tt
  quiet_sums (k ∷ ks) p q =
      let first = first_more k (before k) (after k) (entries ks) in
      let second = second_more k (before k) (after k) (entries ks) in
      (omega (arith, first, second, p, q), quiet_sums ks (omega (arith, first, p)) (omega (arith, second, q)))

  quiet_changes : (ks : List Element) → Quiet ks → entries ks ≡ []
  unfolding Quiet entries
  quiet_changes [] q = refl
  quiet_changes (k ∷ ks) q = λ i. same_count k (before k) (after k) q.0 i ++ quiet_changes ks q.1 i

  both : List Element
  both = ascending element_cmp (xs ++ ys)

  changed_from_sums : only_first (changed profile xs ys) ≡ 0 → only_second (changed profile xs ys) ≡ 0 → changed profile xs ys ≡ []
  unfolding both entries before after
  changed_from_sums p q = quiet_changes both (quiet_sums both p q)

-- ---- a cell

some_brief : (syntax : Syntax) (sign : ℕ) (name : List ℕ) (n m : ℕ) → brief_entry syntax sign name n m ≡ [] → ⊥
some_brief Lines sign name n m h = cc
some_brief Json sign name n m h = cc

unsigned : (syntax : Syntax) (n m : ℕ) (name : List ℕ) → signed_brief syntax (brief_sign true true n m) name n m ≡ [] → (n ≡ 0) × (m ≡ 0)
unsigned syntax n m name e = by_tests (n == 0) (m == 0) refl refl e where
  by_tests : (a b : Bool) → (n == 0) ≡ a → (m == 0) ≡ b → signed_brief syntax (if a && b then None else Some 64) name n m ≡ [] → (n ≡ 0) × (m ≡ 0)
  by_tests true true p q h = (eqb-true n 0 p, eqb-true m 0 q)
  by_tests true false p q h = absurd (some_brief syntax 64 name n m h)
  by_tests false b p q h = absurd (some_brief syntax 64 name n m h)

module _ (notation : Notation) (profile : Profile) (name : List ℕ) where
  brief_none : (o p : Option (List Element)) → cell_changes notation profile name o p ≡ [] → cell_brief notation.syntax profile name o p ≡ []
  brief_none None None e = refl
  brief_none (Some xs) None e = absurd (some_cell profile notation notation.syntax 45 name (element_changes notation name profile xs []) e)
  brief_none None (Some ys) e = absurd (some_cell profile notation notation.syntax 43 name (element_changes notation name profile [] ys) e)
  brief_none (Some xs) (Some ys) e =
      let none = none_changed profile notation name xs ys e in
      λ i. signed_brief notation.syntax (brief_sign true true (only_first (none i)) (only_second (none i))) name (only_first (none i)) (only_second (none i))

  changes_none : (o p : Option (List Element)) → cell_brief notation.syntax profile name o p ≡ [] → cell_changes notation profile name o p ≡ []
  changes_none None None e = refl
  changes_none (Some xs) None e = absurd (some_brief notation.syntax 45 name (only_first (changed profile xs [])) (only_second (changed profile xs [])) e)
  changes_none None (Some ys) e = absurd (some_brief notation.syntax 43 name (only_first (changed profile [] ys)) (only_second (changed profile [] ys)) e)
  changes_none (Some xs) (Some ys) e =
      let sums = unsigned notation.syntax (only_first (changed profile xs ys)) (only_second (changed profile xs ys)) name e in
      ap (λ (cs : List (Element × (ℕ × ℕ))). below_name notation.syntax true true name (flat_map (change_entry notation name) cs)) (changed_from_sums profile xs ys sums.0 sums.1)

-- ---- the layouts

all_none : {K : Type 0} (f g : K → List ℕ) → ((k : K) → f k ≡ [] → g k ≡ []) → (ks : List K) → flat_map f ks ≡ [] → flat_map g ks ≡ []
all_none f g h [] e = refl
all_none f g h (k ∷ ks) e =
    let parts = none_twice (f k) (flat_map f ks) e in
    λ i. h k parts.0 i ++ all_none f g h ks parts.1 i

module _ (layers : Option (Bor (List ChosenLayer))) (format : Format) (profile : Profile) (a b : Meaning) where
  fully : List ℕ → List ℕ
  fully name = cell_changes (notation_of format a.unit b.unit) profile name (or_empty layers (elements_of name a.cells)) (or_empty layers (elements_of name b.cells))

  briefly : List ℕ → List ℕ
  briefly name = cell_brief format.syntax profile name (or_empty layers (elements_of name a.cells)) (or_empty layers (elements_of name b.cells))

  names : List (List ℕ)
  names = ascending (slice_cmp nat_cmp) (keys_of a.cells ++ keys_of b.cells)

  brief_from_none : difference layers format profile a b ≡ [] → brief layers format.syntax profile a b ≡ []
  unfolding fully briefly names
  brief_from_none e =
      let parts = none_twice (unit_changes format.syntax a.unit b.unit) (flat_map fully names) e in
      λ i. parts.0 i ++ all_none fully briefly (λ name. brief_none (notation_of format a.unit b.unit) profile name (or_empty layers (elements_of name a.cells)) (or_empty layers (elements_of name b.cells))) names parts.1 i

  none_from_brief : brief layers format.syntax profile a b ≡ [] → difference layers format profile a b ≡ []
  unfolding fully briefly names
  none_from_brief e =
      let parts = none_twice (unit_changes format.syntax a.unit b.unit) (flat_map briefly names) e in
      λ i. parts.0 i ++ all_none briefly fully (λ name. changes_none (notation_of format a.unit b.unit) profile name (or_empty layers (elements_of name a.cells)) (or_empty layers (elements_of name b.cells))) names parts.1 i

empty_by_layers : (layers : Option (Bor (List ChosenLayer))) (format : Format) (profile : Profile) (a b : Meaning) → (difference layers format profile a b ≡ []) ↔ SameBy layers profile a b
empty_by_layers None format profile a b = empty_if_same format profile a b
empty_by_layers (Some layers) format profile a b = (elements_from_none profile format a b layers, none_from_elements profile format a b layers)

by_detail : (limit : Option ℕ) (layers : Option (Bor (List ChosenLayer))) (detail : Detail) (format : Format) (profile : Profile) (a b : Meaning) →
    (limited format.syntax limit (detailed layers detail format profile a b) ≡ []) ↔ SameBy layers profile a b
by_detail limit layers Elements format profile a b = (
  λ e. (empty_by_layers layers format profile a b).0 (limited_none format.syntax limit (difference layers format profile a b) e),
  λ s. none_limited format.syntax limit (difference layers format profile a b) ((empty_by_layers layers format profile a b).1 s),
)
by_detail limit layers Counts format profile a b = (
  λ e. (empty_by_layers layers format profile a b).0 (none_from_brief layers format profile a b (limited_none format.syntax limit (brief layers format.syntax profile a b) e)),
  λ s. none_limited format.syntax limit (brief layers format.syntax profile a b) (brief_from_none layers format profile a b ((empty_by_layers layers format profile a b).1 s)),
)

pub empty_by_options : (options : Options) (profile : Profile) → EmptyByOptions options profile
empty_by_options options profile a b = by_detail options.limit options.choice.layers options.detail options.format profile (chosen options.choice a) (chosen options.choice b)
