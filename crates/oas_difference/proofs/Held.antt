-- The difference of two layouts is that of what they hold.
use Rattle.std.proofs.Common.{◌≡◌, ℕ, List, [], ◌∷◌, ◌++◌, flat_map, Bool, true, false, cond, Option, None, Some, is_some, unwrap_or, refl, sym, ◌∙◌, ap, subst}
use Rattle.std.specs.Prelude.{◌==◌, option_map, IfSome}
use Rattle.std.specs.Borrow.{Bor}
use Rattle.std.specs.Ordering.{nat_cmp}
use Rattle.std.specs.Cmp.Lexicographic.{slice_cmp, pointwise, texts_ties}
use Rattle.std.specs.List.{AllByRecursion}
use Rattle.std.specs.List.Sorted.{IsStrictlySortedBy}
use Rattle.std.specs.Map.{keys_of, lookup}
use Rattle.std.specs.BTreeMap.{is_at}
use Rattle.std.proofs.lemmas.List.Folds.{flat_map-map}
use Rattle.oas_elements.specs.declared.profile.Profile.{Profile}
use Rattle.oas_elements.specs.declared.element.Element.{Element}
use Rattle.oas_elements.specs.Element.{element_cmp}
use Rattle.oas_elements.specs.Laws.ElementLaws.{element_total}
use Rattle.oas_elements.specs.Same.{IsNormal}
use Rattle.oas_elements.specs.Bag.{items, count_at, IsBag}
use Rattle.oas_elements.specs.Meaning.{elements_of, count_of}
use Rattle.oas_elements.specs.Contents.{Cell, Contents, expanded, meaning_of, IsCell, IsLayout}
use Rattle.oas_elements.proofs.LawProofs.{held}
use Rattle.oas_difference.specs.Ascending.{ascending}
use Rattle.oas_difference.specs.Pairs.{found, side_by_side}
use Rattle.oas_diff_options.specs.Choice.{or_empty}
use Rattle.oas_diff_options.specs.declared.choice.ChosenLayer.{ChosenLayer}
use Rattle.oas_difference.specs.Changed.{change_at, changed}
use Rattle.oas_difference.specs.Format.{notation_of}
use Rattle.oas_difference.specs.Difference.{unit_changes, change_entry, below_name, cell_changes, difference}
use Rattle.oas_difference.specs.Held.{pair_changed, held_changed, held_cell, with_empty, cell_pairs}
use Rattle.oas_diff_options.specs.declared.format.Format.{Format}
use Rattle.oas_difference.specs.declared.notation.Notation.{Notation}
use Rattle.oas_difference.proofs.Ascending.{all_append, all_ascending, items_keys}

map_lists : {A B : Type 0} (f g : A → List B) (xs : List A) → AllByRecursion (λ x. f x ≡ g x) xs → flat_map f xs ≡ flat_map g xs
map_lists f g [] h = refl
map_lists f g (x ∷ xs) h = λ i. h.0 i ++ map_lists f g xs h.1 i

module _ (profile : Profile) where
  pub keys_normal : (es : List (Element × ℕ)) → AllByRecursion (λ p. IsNormal profile p.0) es → AllByRecursion (IsNormal profile) (keys_of es)
  keys_normal [] h = tt
  keys_normal (e ∷ es) h = (h.0, keys_normal es h.1)

  -- ---- the elements of a cell

  module _ (es fs : List (Element × ℕ)) (b : IsBag profile es) (c : IsBag profile fs) where
    pub count_held : (gs : List (Element × ℕ)) (e : Element) → IsBag profile gs → IsNormal profile e → count_of profile e (items gs) ≡ unwrap_or (found element_cmp gs e) 0
    count_held gs e g n = held profile gs e g ∙ ap (count_at gs) n

    entry_held : (xs : List Element) → AllByRecursion (IsNormal profile) xs →
        AllByRecursion (λ e. change_at e (count_of profile e (items es)) (count_of profile e (items fs)) ≡ pair_changed (e, (found element_cmp es e, found element_cmp fs e))) xs
    entry_held [] h = tt
    entry_held (x ∷ xs) h = (λ i. change_at x (count_held es x b h.0 i) (count_held fs x c h.0 i), entry_held xs h.1)

    pub changed_held : changed profile (items es) (items fs) ≡ held_changed es fs
    changed_held =
        let ks = ascending element_cmp (keys_of es ++ keys_of fs) in
        ap (flat_map (λ e. change_at e (count_of profile e (items es)) (count_of profile e (items fs)))) (items_keys element_total es fs b.tally.positive c.tally.positive)
        ∙ map_lists _ (λ e. pair_changed (e, (found element_cmp es e, found element_cmp fs e))) ks
        (entry_held ks (all_ascending (IsNormal profile) element_cmp (keys_of es ++ keys_of fs)
        (all_append (IsNormal profile) (keys_of es) (keys_of fs) (keys_normal es b.normal) (keys_normal fs c.normal))))
        ∙ sym (flat_map-map pair_changed (λ e. (e, (found element_cmp es e, found element_cmp fs e))) ks)

  -- ---- a cell

  empty_bag : IsBag profile []
  unfolding IsStrictlySortedBy
  empty_bag = record { tally = record { ascending = tt; positive = tt }; normal = tt }

  pub bag_of : (o : Option (List (Element × ℕ))) → IfSome o (IsBag profile) → IsBag profile (unwrap_or o [])
  bag_of None b = empty_bag
  bag_of (Some es) b = b

  pub there : (o : Option (List (Element × ℕ))) → is_some (option_map items o) ≡ is_some o
  there None = refl
  there (Some es) = refl

  pub the_items : (o : Option (List (Element × ℕ))) → unwrap_or (option_map items o) [] ≡ items (unwrap_or o [])
  the_items None = refl
  the_items (Some es) = refl

  cell_held : (notation : Notation) (name : List ℕ) (o p : Option (List (Element × ℕ))) → IfSome o (IsBag profile) → IfSome p (IsBag profile) →
      cell_changes notation profile name (option_map items o) (option_map items p) ≡ held_cell notation (name, (o, p))
  cell_held notation name o p b c =
      (λ i. below_name notation.syntax (there o i) (there p i) name (flat_map (change_entry notation name) (changed profile (the_items o i) (the_items p i))))
      ∙ ap (λ (cs : List (Element × (ℕ × ℕ))). below_name notation.syntax (is_some o) (is_some p) name (flat_map (change_entry notation name) cs))
      (changed_held (unwrap_or o []) (unwrap_or p []) (bag_of o b) (bag_of p c))

  pub or_bag : (layers : Option (Bor (List ChosenLayer))) (o : Option (List (Element × ℕ))) → IfSome o (IsBag profile) → IfSome (or_empty layers o) (IsBag profile)
  or_bag None o b = b
  or_bag (Some l) o b = bag_of o b

  -- ---- the cells

  pub bag_at : (test : List ℕ → Bool) (cs : List Cell) → AllByRecursion (IsCell profile) cs → IfSome (lookup test cs) (IsBag profile)
  bag_at test [] h = tt
  bag_at test (c ∷ cs) h = elim (test c.0) as (λ b. IfSome (cond b (Some c.1) (lookup test cs)) (IsBag profile)) [ true ↦ h.0.bag | false ↦ bag_at test cs h.1 ]

elements_held : (name : List ℕ) (cs : List Cell) → elements_of name (expanded cs) ≡ option_map items (lookup (pointwise ◌==◌ name) cs)
elements_held name [] = refl
elements_held name (c ∷ cs) =
    elim (pointwise ◌==◌ name c.0) as (λ b. cond b (Some (items c.1)) (elements_of name (expanded cs))
    ≡ option_map items (cond b (Some c.1) (lookup (pointwise ◌==◌ name) cs))) [ true ↦ refl | false ↦ elements_held name cs ]

pub elements_found : (name : List ℕ) (cs : List Cell) → elements_of name (expanded cs) ≡ option_map items (found (slice_cmp nat_cmp) cs name)
elements_found name cs = elements_held name cs ∙ (λ i. option_map items (lookup (λ k. texts_ties name k i) cs))

pub keys_held : (cs : List Cell) → keys_of (expanded cs) ≡ keys_of cs
keys_held [] = refl
keys_held (c ∷ cs) = λ i. c.0 ∷ keys_held cs i

pub or_items : (layers : Option (Bor (List ChosenLayer))) (o : Option (List (Element × ℕ))) → or_empty layers (option_map items o) ≡ option_map items (or_empty layers o)
or_items None o = refl
or_items (Some l) None = refl
or_items (Some l) (Some es) = refl

-- what is given for each pair of cells is given for each name
pub pairs_are : {B : Type 0} (layers : Option (Bor (List ChosenLayer))) (f : List ℕ × (Option (List (Element × ℕ)) × Option (List (Element × ℕ))) → List B) (cs ds : List Cell) →
    flat_map f (cell_pairs layers cs ds)
    ≡ flat_map (λ name. f (name, (or_empty layers (found (slice_cmp nat_cmp) cs name), or_empty layers (found (slice_cmp nat_cmp) ds name))))
    (ascending (slice_cmp nat_cmp) (keys_of cs ++ keys_of ds))
pairs_are layers f cs ds =
    let names = ascending (slice_cmp nat_cmp) (keys_of cs ++ keys_of ds) in
    flat_map-map f (with_empty layers) (side_by_side (slice_cmp nat_cmp) cs ds)
    ∙ flat_map-map (λ p. f (with_empty layers p)) (λ name. (name, (found (slice_cmp nat_cmp) cs name, found (slice_cmp nat_cmp) ds name))) names

module _ (notation : Notation) (profile : Profile) (layers : Option (Bor (List ChosenLayer))) (cs ds : List Cell) (p : AllByRecursion (IsCell profile) cs) (q : AllByRecursion (IsCell profile) ds) where
  name_held : (name : List ℕ) → cell_changes notation profile name (or_empty layers (elements_of name (expanded cs))) (or_empty layers (elements_of name (expanded ds)))
      ≡ held_cell notation (name, (or_empty layers (found (slice_cmp nat_cmp) cs name), or_empty layers (found (slice_cmp nat_cmp) ds name)))
  name_held name =
      let o = found (slice_cmp nat_cmp) cs name in
      let r = found (slice_cmp nat_cmp) ds name in
      (λ i. cell_changes notation profile name (or_empty layers (elements_found name cs i)) (or_empty layers (elements_found name ds i)))
      ∙ (λ i. cell_changes notation profile name (or_items layers o i) (or_items layers r i))
      ∙ cell_held profile notation name (or_empty layers o) (or_empty layers r) (or_bag profile layers o (bag_at profile (is_at (slice_cmp nat_cmp name)) cs p))
      (or_bag profile layers r (bag_at profile (is_at (slice_cmp nat_cmp name)) ds q))

  cells_held : flat_map (λ name. cell_changes notation profile name (or_empty layers (elements_of name (expanded cs))) (or_empty layers (elements_of name (expanded ds))))
      (ascending (slice_cmp nat_cmp) (keys_of (expanded cs) ++ keys_of (expanded ds))) ≡ flat_map (held_cell notation) (cell_pairs layers cs ds)
  cells_held =
      (λ i. flat_map (λ name. name_held name i) (ascending (slice_cmp nat_cmp) (keys_held cs i ++ keys_held ds i)))
      ∙ sym (pairs_are layers (held_cell notation) cs ds)

-- the entries of the units, and then those of the cells that are held
pub difference_held : (layers : Option (Bor (List ChosenLayer))) (format : Format) (a b : Contents) → IsLayout a → IsLayout b → a.profile ≡ b.profile →
    difference layers format a.profile (meaning_of a) (meaning_of b)
    ≡ unit_changes format.syntax a.unit b.unit ++ flat_map (held_cell (notation_of format a.unit b.unit)) (cell_pairs layers a.cells b.cells)
difference_held layers format a b k l alike =
    ap (λ (text : List ℕ). unit_changes format.syntax a.unit b.unit ++ text)
    (cells_held (notation_of format a.unit b.unit) a.profile layers a.cells b.cells k.cells (subst (λ p. AllByRecursion (IsCell p) b.cells) (sym alike) l.cells))
