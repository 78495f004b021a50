-- Sets of names that grow, and what is left to be added.
use Rattle.std.proofs.Common.{◌≡◌, ℕ, zero, suc, ◌<◌, Bool, true, false, cond, ◌||◌, List, [], ◌∷◌, length, replicate, None, Some, refl, sym, ap, subst, ◌∙◌, arith}
use Rattle.std.specs.List.{list_any, AllByRecursion}
use Rattle.std.specs.Map.{keys_of}
use Rattle.std.specs.declared.cmp.Ordering.TheVariants.{Less}
use Rattle.std.proofs.lemmas.List.Folds.{list_any-append}
use Rattle.std.proofs.lemmas.Map.Keys.{sorted_head, sorted_tail}
use Rattle.std.proofs.lemmas.Map.Lookups.{exact_bytes}
use Rattle.std.proofs.lemmas.Map.Views.{tells_apart}
use Rattle.std.proofs.lemmas.Cmp.{tied_itself, nat_list_cmp_total}
use Rattle.std.specs.Ordering.{is_eq}
use Rattle.std.specs.declared.cmp.Ordering.{Ordering}
use Rattle.oas_num.specs.Texts.{IsName}
use Rattle.oas_elements.specs.declared.element.Element.{Element}
use Rattle.oas_elements.specs.declared.element.Element.TheVariants as element
use Rattle.oas_elements.specs.Bag.{items, IsTally}
use Rattle.oas_elements.specs.Element.{element_cmp}
use Rattle.oas_elements.specs.Sound.{IsSound}
use Rattle.oas_elements.specs.Contents.{Cell, Contents, expanded, meaning_of, IsCell, IsLayout}
use Rattle.oas_info.specs.Names.{is_named, has_name, placed_by, places, is_placed_in, is_placed, is_defined, Adds, HasNames}

-- ---- truth values

or_same : (x b : Bool) → (b ≡ true → x ≡ true) → x ≡ (x || b)
or_same true b h = refl
or_same false false h = refl
or_same false true h = h refl

or_twice : (x : Bool) → (x || x) ≡ x
or_twice true = refl
or_twice false = refl

or_false : (x : Bool) → (x || false) ≡ x
or_false true = refl
or_false false = refl

or_true : (x : Bool) → (x || true) ≡ true
or_true true = refl
or_true false = refl

or_assoc : (x y z : Bool) → ((x || y) || z) ≡ (x || (y || z))
or_assoc true y z = refl
or_assoc false y z = refl

or_cond : (b x : Bool) → cond b true x ≡ (x || b)
or_cond true x = sym (or_true x)
or_cond false x = sym (or_false x)

-- ---- a name

-- a name that is there already
known : (list : List (List ℕ)) (name : List ℕ) → has_name list name ≡ true → Adds (is_named name) list list
known list name h q = or_same (has_name list q) (is_named name q) (λ e. subst (λ (n : List ℕ). has_name list n ≡ true) (tells_apart exact_bytes name q e) h)

-- that before it is
pub known_before : (list : List (List ℕ)) (name before : List ℕ) → name ≡ before → 0 < length name → (0 < length before → has_name list before ≡ true) → Adds (is_named name) list list
known_before list name before same some h = known list name (subst (λ (n : List ℕ). 0 < length n → has_name list n ≡ true) (sym same) h some)

-- the set has it, or else what it had before
pub inserted : (list new : List (List ℕ)) (name : List ℕ) → ((q : List ℕ) → has_name new q ≡ cond (is_named name q) true (has_name list q)) → Adds (is_named name) list new
inserted list new name h q = h q ∙ or_cond (is_named name q) (has_name list q)

-- a name that was added is there
pub there : (list new : List (List ℕ)) (name : List ℕ) → Adds (is_named name) list new → has_name new name ≡ true
there list new name adds =
    adds name ∙ ap (λ (r : Ordering). has_name list name || is_eq r) (tied_itself nat_list_cmp_total name) ∙ or_true (has_name list name)

-- ---- an element

pub placed_name : (e : Element) (cell : List ℕ) → IsSound e → placed_by e ≡ Some cell → IsName cell
placed_name (element.Placement cell x y turns flip) name s is = let same : cell ≡ name = cc in subst IsName same s.fits
placed_name (element.Text string textlayer texttype x y) name s is = absurd cc
placed_name (element.Rectangle layer datatype width height x y) name s is = absurd cc
placed_name (element.Polygon layer datatype points) name s is = absurd cc
placed_name (element.Path layer datatype half_width start end points) name s is = absurd cc
placed_name (element.Circle layer datatype radius x y) name s is = absurd cc

places_it : (e : Element) (cell : List ℕ) → placed_by e ≡ Some cell → (q : List ℕ) → places q e ≡ is_named cell q
places_it (element.Placement cell x y turns flip) name is q = let same : cell ≡ name = cc in ap (λ (n : List ℕ). is_named n q) same
places_it (element.Text string textlayer texttype x y) name is q = absurd cc
places_it (element.Rectangle layer datatype width height x y) name is q = absurd cc
places_it (element.Polygon layer datatype points) name is q = absurd cc
places_it (element.Path layer datatype half_width start end points) name is q = absurd cc
places_it (element.Circle layer datatype radius x y) name is q = absurd cc

places_none : (e : Element) → placed_by e ≡ None → (q : List ℕ) → places q e ≡ false
places_none (element.Placement cell x y turns flip) none q = absurd cc
places_none (element.Text string textlayer texttype x y) none q = refl
places_none (element.Rectangle layer datatype width height x y) none q = refl
places_none (element.Polygon layer datatype points) none q = refl
places_none (element.Path layer datatype half_width start end points) none q = refl
places_none (element.Circle layer datatype radius x y) none q = refl

-- no placement comes after another element
none_after : (e f : Element) → placed_by e ≡ None → element_cmp e f ≡ Less → placed_by f ≡ None
none_after (element.Placement cell x y turns flip) f none less = absurd cc
none_after (element.Text string textlayer texttype x y) (element.Placement cell' x' y' turns' flip') none less = absurd cc
none_after (element.Rectangle layer datatype width height x y) (element.Placement cell' x' y' turns' flip') none less = absurd cc
none_after (element.Polygon layer datatype points) (element.Placement cell' x' y' turns' flip') none less = absurd cc
none_after (element.Path layer datatype half_width start end points) (element.Placement cell' x' y' turns' flip') none less = absurd cc
none_after (element.Circle layer datatype radius x y) (element.Placement cell' x' y' turns' flip') none less = absurd cc
none_after e (element.Text string textlayer texttype x y) none less = refl
none_after e (element.Rectangle layer datatype width height x y) none less = refl
none_after e (element.Polygon layer datatype points) none less = refl
none_after e (element.Path layer datatype half_width start end points) none less = refl
none_after e (element.Circle layer datatype radius x y) none less = refl

-- ---- elements

any_copies : (p : Element → Bool) (e : Element) (n : ℕ) → list_any p (replicate (suc n) e) ≡ p e
any_copies p e zero = or_false (p e)
any_copies p e (suc n) = ap (λ (b : Bool). p e || b) (any_copies p e n) ∙ or_twice (p e)

any_some : (p : Element → Bool) (e : Element) (n : ℕ) → 0 < n → list_any p (replicate n e) ≡ p e
any_some p e zero h = absurd (omega (arith, h))
any_some p e (suc n) h = any_copies p e n

any_pair : (p : Element → Bool) (e : Element) (n : ℕ) (rest : List (Element × ℕ)) → 0 < n → list_any p (items ((e, n) ∷ rest)) ≡ (p e || list_any p (items rest))
any_pair p e n rest h = list_any-append p (replicate n e) (items rest) ∙ ap (λ (b : Bool). b || list_any p (items rest)) (any_some p e n h)

-- where the first is no placement, none is
none_placed : (e : Element) (n : ℕ) (rest : List (Element × ℕ)) → placed_by e ≡ None → AllByRecursion (λ p. 0 < p.1) ((e, n) ∷ rest) → AllByRecursion (λ f. element_cmp e f ≡ Less) (keys_of rest)
    → (q : List ℕ) → is_placed_in (items ((e, n) ∷ rest)) q ≡ false
none_placed e n [] none some after q = any_pair (places q) e n [] some.0 ∙ ap (λ (b : Bool). b || false) (places_none e none q)
none_placed e n (f ∷ fs) none some after q =
    any_pair (places q) e n (f ∷ fs) some.0 ∙ ap (λ (b : Bool). b || is_placed_in (items (f ∷ fs)) q) (places_none e none q)
    ∙ any_pair (places q) f.0 f.1 fs some.1.0 ∙ ap (λ (b : Bool). b || is_placed_in (items fs) q) (places_none f.0 (none_after e f.0 none after.0) q)
    ∙ sym (ap (λ (b : Bool). b || is_placed_in (items fs) q) (places_none e none q)) ∙ sym (any_pair (places q) e n fs some.0) ∙ none_placed e n fs none (some.0, some.1.1) after.1 q

-- Some of the elements were looked at, and these are left. The name before is among those that were added, where there is one.
pub record ElementsLeft (all left : List (Element × ℕ)) (old now : List (List ℕ)) (before : List ℕ) : Type 0 where
  pub tally : IsTally left
  pub known : 0 < length before → has_name now before ≡ true
  pub has : (q : List ℕ) → (has_name now q || is_placed_in (items left) q) ≡ (has_name old q || is_placed_in (items all) q)

pub elements_begin : (all left : List (Element × ℕ)) (old : List (List ℕ)) (before : List ℕ) → IsTally all → left ≡ all → before ≡ [] → ElementsLeft all left old old before
elements_begin all left old before t is none = subst (λ (es : List (Element × ℕ)). ElementsLeft all es old old before) (sym is) (record {
  tally = t;
  known = λ some. absurd (omega (arith, some, ap length none));
  has = λ q. refl;
})

module _ (all before after : List (Element × ℕ)) (e : Element) (n : ℕ) (is : before ≡ (e, n) ∷ after) (old now : List (List ℕ)) (last : List ℕ) (left : ElementsLeft all before old now last) where
  here : ElementsLeft all ((e, n) ∷ after) old now last
  here = subst (λ (es : List (Element × ℕ)). ElementsLeft all es old now last) is left

  pub element_added : (cell : List ℕ) (new : List (List ℕ)) → placed_by e ≡ Some cell → Adds (is_named cell) now new → ElementsLeft all after old new cell
  element_added cell new placed adds = record {
    tally = record { ascending = sorted_tail element_cmp e (keys_of after) here.tally.ascending; positive = here.tally.positive.1 };
    known = λ some. there now new cell adds;
    has = λ q. ap (λ (b : Bool). b || is_placed_in (items after) q) (adds q)
        ∙ or_assoc (has_name now q) (is_named cell q) (is_placed_in (items after) q)
        ∙ ap (λ (b : Bool). has_name now q || (b || is_placed_in (items after) q)) (sym (places_it e cell placed q))
        ∙ ap (λ (b : Bool). has_name now q || b) (sym (any_pair (places q) e n after here.tally.positive.0))
        ∙ here.has q;
  }

  pub none_left : placed_by e ≡ None → Adds (is_placed_in (items all)) old now
  none_left none q =
      sym (ap (λ (b : Bool). has_name now q || b) (none_placed e n after none here.tally.positive (sorted_head element_cmp e (keys_of after) here.tally.ascending) q) ∙ or_false (has_name now q))
      ∙ here.has q

pub elements_done : (all left : List (Element × ℕ)) (old now : List (List ℕ)) (before : List ℕ) → ElementsLeft all left old now before → left ≡ [] → Adds (is_placed_in (items all)) old now
elements_done all left old now before l none q =
    sym (ap (λ (es : List (Element × ℕ)). has_name now q || is_placed_in (items es) q) none ∙ or_false (has_name now q)) ∙ l.has q

-- ---- cells

-- whether one of these cells is so
abbrev pub in_cells : (List ℕ × List Element → Bool) → List Cell → Bool
in_cells p cs = list_any p (expanded cs)

-- a cell places the name
abbrev pub placing : List ℕ → List ℕ × List Element → Bool
placing q c = is_placed_in c.1 q

-- a cell has the name
abbrev pub naming : List ℕ → List ℕ × List Element → Bool
naming q c = is_named c.0 q

-- some of the cells were looked at, and these are left
pub record CellsLeft (p : List ℕ → List ℕ × List Element → Bool) (l : Contents) (left : List Cell) (now : List (List ℕ)) : Type 0 where
  pub are_cells : AllByRecursion (IsCell l.profile) left
  pub has : (q : List ℕ) → (has_name now q || in_cells (p q) left) ≡ in_cells (p q) l.cells

pub cells_begin : (p : List ℕ → List ℕ × List Element → Bool) (l : Contents) (left : List Cell) (now : List (List ℕ)) → IsLayout l → left ≡ l.cells → now ≡ [] → CellsLeft p l left now
cells_begin p l left now h is none = subst (λ (cs : List Cell). CellsLeft p l cs now) (sym is) (record {
  are_cells = h.cells;
  has = λ q. ap (λ (ns : List (List ℕ)). has_name ns q || in_cells (p q) l.cells) none;
})

module _ (p : List ℕ → List ℕ × List Element → Bool) (l : Contents) (before after : List Cell) (c : Cell) (is : before ≡ c ∷ after) (now : List (List ℕ)) (left : CellsLeft p l before now) where
  cells_here : CellsLeft p l (c ∷ after) now
  cells_here = subst (λ (cs : List Cell). CellsLeft p l cs now) is left

  pub cell_tally : IsTally c.1
  cell_tally = cells_here.are_cells.0.bag.tally

  pub cell_named : IsName c.0
  cell_named = cells_here.are_cells.0.name

  pub cell_added : (new : List (List ℕ)) → Adds (λ q. p q (c.0, items c.1)) now new → CellsLeft p l after new
  cell_added new adds = record {
    are_cells = cells_here.are_cells.1;
    has = λ q. ap (λ (b : Bool). b || in_cells (p q) after) (adds q) ∙ or_assoc (has_name now q) (p q (c.0, items c.1)) (in_cells (p q) after) ∙ cells_here.has q;
  }

cells_done : (p : List ℕ → List ℕ × List Element → Bool) (l : Contents) (left : List Cell) (now : List (List ℕ)) → CellsLeft p l left now → left ≡ [] → (q : List ℕ) → has_name now q ≡ in_cells (p q) l.cells
cells_done p l left now s none q = sym (ap (λ (cs : List Cell). has_name now q || in_cells (p q) cs) none ∙ or_false (has_name now q)) ∙ s.has q

pub placed_done : (l : Contents) (left : List Cell) (now : List (List ℕ)) → CellsLeft placing l left now → left ≡ [] → HasNames (is_placed (meaning_of l)) now
placed_done l left now s none = cells_done placing l left now s none

pub defined_done : (l : Contents) (left : List Cell) (now : List (List ℕ)) → CellsLeft naming l left now → left ≡ [] → HasNames (is_defined (meaning_of l)) now
defined_done l left now s none = cells_done naming l left now s none
