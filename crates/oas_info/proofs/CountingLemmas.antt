-- Numbers beside groups, and totals, as they grow.
use Rattle.std.proofs.Common.{◌≡◌, ℕ, zero, suc, ◌+◌, ◌*◌, ◌<◌, ◌≤◌, ◌^◌, Bool, true, false, List, [], ◌∷◌, length, replicate, Option, None, Some, refl, sym, ap, length-append}
use Rattle.std.proofs.Common.{subst, ◌∙◌, arith}
use Rattle.std.specs.declared.alloc.AllocError.{AllocError}
use Rattle.std.specs.Prelude.{Result, Ok, Err, OnOk, cond, sum_by, unwrap_or, option_to_list}
use Rattle.std.specs.List.{AllByRecursion}
use Rattle.std.specs.List.Sorted.{IsStrictlySortedBy}
use Rattle.std.specs.Ordering.{is_eq}
use Rattle.std.specs.declared.cmp.Ordering.{Ordering}
use Rattle.std.specs.Map.{lookup, keys_of}
use Rattle.std.specs.BTreeMap.{BTreeMap, is_at, get, insert_entry, IsOrdered}
use Rattle.std.proofs.lemmas.Map.Views.{tells_apart}
use Rattle.std.proofs.lemmas.List.{length-replicate}
use Rattle.std.proofs.lemmas.List.Folds.{sum_by-replicate}
use Rattle.std.proofs.lemmas.List.Sums.{sum_by-cons, sum_by-append}
use Rattle.std.proofs.lemmas.Cmp.{tied_itself}
use Rattle.oas_elements.specs.declared.element.Element.{Element}
use Rattle.oas_elements.specs.Bag.{items}
use Rattle.oas_elements.specs.Meaning.{element_count}
use Rattle.oas_elements.specs.Weight.{weight_of}
use Rattle.oas_elements.specs.Contents.{Cell, Contents, expanded, meaning_of, IsCell, IsLayout}
use Rattle.oas_info.specs.declared.group.Group.{Group}
use Rattle.oas_info.specs.declared.totals.Totals.{Totals}
use Rattle.oas_info.specs.Groups.{group_cmp, kind_of, layer_of, if_same, if_in, count_of, number_of, IsTally, Grows}
use Rattle.oas_info.specs.Laws.GroupLaws.{derived_cmp, stated_cmp, group_total, exact_groups}
use Rattle.oas_info.specs.Totals.{Amounts, of_elements, of_cell, of_cells, HasRoom, Added, AreTotals}
use Rattle.oas_info.proofs.LookupLemmas.{lookup-insert_entry}

-- ---- one group

-- what a look-up finds, by the stated order
by_stated : (m : BTreeMap Group ℕ) (g : Group) → get derived_cmp m g ≡ lookup (is_at (group_cmp g)) m.entries
by_stated m g = ap (λ (R : Group → Group → Ordering). lookup (is_at (R g)) m.entries) stated_cmp

-- n more are counted in a group
abbrev pub IsCounted : BTreeMap Group ℕ → BTreeMap Group ℕ → Group → ℕ → Type 0
IsCounted old new k n = new.entries ≡ insert_entry derived_cmp old.entries k (unwrap_or (get derived_cmp old k) 0 + n)

module _ (old new : BTreeMap Group ℕ) (k : Group) (n : ℕ) (some : 0 < n) (is : IsCounted old new k n) where
  stated : new.entries ≡ insert_entry group_cmp old.entries k (number_of old.entries k + n)
  stated = is ∙ (λ i. insert_entry (stated_cmp i) old.entries k (unwrap_or (by_stated old k i) 0 + n))

  found : (g : Group) → lookup (is_at (group_cmp g)) new.entries ≡ cond (is_eq (group_cmp k g)) (Some (number_of old.entries k + n)) (lookup (is_at (group_cmp g)) old.entries)
  found g = ap (λ (ns : List (Group × ℕ)). lookup (is_at (group_cmp g)) ns) stated ∙ lookup-insert_entry group_total k g (number_of old.entries k + n) old.entries

  pub grows : Grows (λ g. if_same n g k) old.entries new.entries
  grows g = ap (λ (o : Option ℕ). unwrap_or o 0) (found g) ∙ by_same (is_eq (group_cmp k g)) refl where
    by_same : (b : Bool) → is_eq (group_cmp k g) ≡ b → unwrap_or (cond b (Some (number_of old.entries k + n)) (lookup (is_at (group_cmp g)) old.entries)) 0 ≡ number_of old.entries g + cond b n 0
    by_same true e = ap (λ (h : Group). number_of old.entries h + n) (tells_apart exact_groups k g e)
    by_same false e = omega arith

  pub tally : IsTally old.entries → IsOrdered derived_cmp new → IsTally new.entries
  tally t ordered = record {
    ascending = subst (λ (R : Group → Group → Ordering). IsStrictlySortedBy R (keys_of new.entries)) stated_cmp ordered;
    positive = λ g e. by_same g (is_eq (group_cmp k g)) (sym (found g) ∙ e);
  } where
    by_same : (g : Group) (b : Bool) → cond b (Some (number_of old.entries k + n)) (lookup (is_at (group_cmp g)) old.entries) ≡ Some 0 → ⊥
    by_same g true e = let z : number_of old.entries k + n ≡ 0 = cc in absurd (omega (arith, some, z))
    by_same g false e = t.positive g e

-- ---- a kind, and a layer if there is one

-- n if the layer is there and is g, else 0
abbrev pub of_layer : ℕ → Group → Option Group → ℕ
of_layer n g None = 0
of_layer n g (Some h) = if_same n g h

in_groups : (n : ℕ) (g k : Group) (o : Option Group) → sum_by (if_same n g) (k ∷ option_to_list o) ≡ if_same n g k + of_layer n g o
in_groups n g k None = sum_by-cons (if_same n g) k []
in_groups n g k (Some h) = omega (arith, sum_by-cons (if_same n g) k (h ∷ []), sum_by-cons (if_same n g) h [])

-- a group is the same as itself
itself : (n : ℕ) (k : Group) → if_same n k k ≡ n
itself n k = ap (λ (r : Ordering). cond (is_eq r) n 0) (tied_itself group_total k)

module _ (k : Group) (o : Option Group) (n : ℕ) (some : 0 < n) (old : BTreeMap Group ℕ) where
  module _ (room : (g : Group) → number_of old.entries g + sum_by (if_same n g) (k ∷ option_to_list o) < 2 ^ 64) where
    pub kind_room : unwrap_or (get derived_cmp old k) 0 + n < 2 ^ 64
    kind_room = omega (arith, room k, ap (λ (o : Option ℕ). unwrap_or o 0) (by_stated old k), in_groups n k k o, itself n k)

    pub layer_room : (mid : BTreeMap Group ℕ) → IsCounted old mid k n → (h : Group) → o ≡ Some h → unwrap_or (get derived_cmp mid h) 0 + n < 2 ^ 64
    layer_room mid counted h layer = omega (
      arith,
      room h,
      ap (λ (o : Option ℕ). unwrap_or o 0) (by_stated mid h),
      grows old mid k n some counted h,
      in_groups n h k o,
      ap (of_layer n h) layer,
      itself n h,
    )

  module _ (mid : BTreeMap Group ℕ) (counted : IsCounted old mid k n) where
    pub kind_counted : o ≡ None → Grows (λ g. sum_by (if_same n g) (k ∷ option_to_list o)) old.entries mid.entries
    kind_counted none g = omega (arith, grows old mid k n some counted g, in_groups n g k o, ap (of_layer n g) none)

    pub layer_counted : (h : Group) → o ≡ Some h → (new : BTreeMap Group ℕ) (r : Result Unit AllocError) →
        OnOk r (IsCounted mid new h n) → OnOk r (Grows (λ g. sum_by (if_same n g) (k ∷ option_to_list o)) old.entries new.entries)
    layer_counted h layer new (Ok u) second = λ g. omega (arith, grows old mid k n some counted g, grows mid new h n some second g, in_groups n g k o, ap (of_layer n g) layer)
    layer_counted h layer new (Err x) second = tt

pub layer_tally : (mid new : BTreeMap Group ℕ) (h : Group) (n : ℕ) (r : Result Unit AllocError) → 0 < n →
    OnOk r (IsCounted mid new h n) → OnOk r (IsOrdered derived_cmp new) → IsTally mid.entries →
    OnOk r (IsTally new.entries)
layer_tally mid new h n (Ok u) some counted ordered t = tally mid new h n some counted t ordered
layer_tally mid new h n (Err x) some counted ordered t = tt

-- ---- an element

-- one element, this many times
if_same_times : (n : ℕ) (g h : Group) → n * if_same 1 g h ≡ if_same n g h
if_same_times n g h = by_test (is_eq (group_cmp h g)) where
  by_test : (b : Bool) → n * cond b 1 0 ≡ cond b n 0
  by_test true = omega arith
  by_test false = omega arith

layer_times : (n : ℕ) (g : Group) (o : Option Group) → n * of_layer 1 g o ≡ of_layer n g o
layer_times n g None = omega arith
layer_times n g (Some h) = if_same_times n g h

if_in_times : (n : ℕ) (g : Group) (e : Element) → n * if_in 1 g e ≡ if_in n g e
if_in_times n g e =
    ap (λ (k : ℕ). n * k) (in_groups 1 g (kind_of e) (layer_of e)) ∙ distributes (if_same 1 g (kind_of e)) (of_layer 1 g (layer_of e))
    ∙ (λ i. if_same_times n g (kind_of e) i + layer_times n g (layer_of e) i) ∙ sym (in_groups n g (kind_of e) (layer_of e))
  where
    distributes : (x y : ℕ) → n * (x + y) ≡ n * x + n * y
    distributes x y = omega arith

count_copies : (g : Group) (e : Element) (n : ℕ) → count_of g (replicate n e) ≡ if_in n g e
count_copies g e n = sum_by-replicate (if_in 1 g) n e ∙ if_in_times n g e

at_least : (n w : ℕ) → 0 < n → w ≤ n * w
at_least zero w some = absurd (omega (arith, some))
at_least (suc n) w some = omega arith

module _ (e : Element) (n : ℕ) (some : 0 < n) (old : Totals) (room : HasRoom (of_elements (replicate n e)) old) where
  copies_weigh : sum_by weight_of (replicate n e) ≡ n * weight_of e
  copies_weigh = sum_by-replicate weight_of n e

  pub one_light : weight_of e < 2 ^ 64
  one_light = omega (arith, room.weight, copies_weigh, at_least n (weight_of e) some)

  pub times_light : old.weight + n * weight_of e < 2 ^ 64
  times_light = omega (arith, room.weight, copies_weigh)

  pub times_fit : old.elements + n < 2 ^ 64
  times_fit = omega (arith, room.elements, length-replicate n e)

  pub groups_room : (k : Group) (o : Option Group) → k ≡ kind_of e → o ≡ layer_of e → (g : Group) → number_of old.groups.entries g + sum_by (if_same n g) (k ∷ option_to_list o) < 2 ^ 64
  groups_room k o kind layer g =
      let same : sum_by (if_same n g) (k ∷ option_to_list o) ≡ if_in n g e = λ i. sum_by (if_same n g) (kind i ∷ option_to_list (layer i)) in
      omega (arith, room.groups g, count_copies g e n, same)

  pub element_counted : (new : Totals) (k : Group) (o : Option Group) → k ≡ kind_of e → o ≡ layer_of e → IsTally new.groups.entries
      → Grows (λ g. sum_by (if_same n g) (k ∷ option_to_list o)) old.groups.entries new.groups.entries → new.elements ≡ old.elements + n → new.weight ≡ old.weight + n * weight_of e
      → Added (of_elements (replicate n e)) old new
  element_counted new k o kind layer t grown elements weight = record {
    tally = t;
    groups = λ g.
        let same : sum_by (if_same n g) (k ∷ option_to_list o) ≡ if_in n g e = λ i. sum_by (if_same n g) (kind i ∷ option_to_list (layer i)) in
        omega (arith, grown g, count_copies g e n, same);
    elements = omega (arith, elements, length-replicate n e);
    weight = omega (arith, weight, copies_weigh);
  }

-- ---- one amount after another

-- all of it is the first and the rest
record Splits (all first rest : Amounts) : Type 0 where
  groups : (g : Group) → all.groups g ≡ first.groups g + rest.groups g
  elements : all.elements ≡ first.elements + rest.elements
  weight : all.weight ≡ first.weight + rest.weight

-- what is left has room, and once it is added, it is done
pub record Left (left : Amounts) (now : Totals) (Done : Totals → Type 0) : Type 0 where
  pub room : HasRoom left now
  pub ends : (new : Totals) → Added left now new → Done new

module _ {all first rest : Amounts} (s : Splits all first rest) {now : Totals} {Done : Totals → Type 0} (left : Left all now Done) where
  first_room : HasRoom first now
  first_room = record {
    tally = left.room.tally;
    groups = λ g. omega (arith, s.groups g, left.room.groups g);
    elements = omega (arith, s.elements, left.room.elements);
    weight = omega (arith, s.weight, left.room.weight);
  }

  first_added : (mid : Totals) → Added first now mid → Left rest mid Done
  first_added mid a = record {
    room = record {
      tally = a.tally;
      groups = λ g. omega (arith, s.groups g, left.room.groups g, a.groups g);
      elements = omega (arith, s.elements, left.room.elements, a.elements);
      weight = omega (arith, s.weight, left.room.weight, a.weight);
    };
    ends = λ new b. left.ends new (record {
      tally = b.tally;
      groups = λ g. omega (arith, s.groups g, a.groups g, b.groups g);
      elements = omega (arith, s.elements, a.elements, b.elements);
      weight = omega (arith, s.weight, a.weight, b.weight);
    });
  }

-- nothing is left
ended : {left : Amounts} {now : Totals} {Done : Totals → Type 0} → Left left now Done → ((g : Group) → left.groups g ≡ 0) → left.elements ≡ 0 → left.weight ≡ 0 → Done now
ended {now = now} l groups elements weight = l.ends now (record {
  tally = l.room.tally;
  groups = λ g. omega (arith, groups g);
  elements = omega (arith, elements);
  weight = omega (arith, weight);
})

-- ---- elements

split_pair : (e : Element) (n : ℕ) (rest : List (Element × ℕ)) → Splits (of_elements (items ((e, n) ∷ rest))) (of_elements (replicate n e)) (of_elements (items rest))
split_pair e n rest = record {
  groups = λ g. sum_by-append (if_in 1 g) (replicate n e) (items rest);
  elements = length-append (replicate n e) (items rest);
  weight = sum_by-append weight_of (replicate n e) (items rest);
}

-- some of the elements were counted, and these are left
pub record ElementsLeft (all left : List (Element × ℕ)) (old now : Totals) : Type 0 where
  pub some : AllByRecursion (λ p. 0 < p.1) left
  pub rest : Left (of_elements (items left)) now (Added (of_elements (items all)) old)

pub elements_begin : (all left : List (Element × ℕ)) (old : Totals) → AllByRecursion (λ p. 0 < p.1) all → HasRoom (of_elements (items all)) old → left ≡ all → ElementsLeft all left old old
elements_begin all left old some room is =
    subst (λ (es : List (Element × ℕ)). ElementsLeft all es old old) (sym is) (record { some = some; rest = record { room = room; ends = λ new a. a } })

module _ (all before after : List (Element × ℕ)) (e : Element) (n : ℕ) (is : before ≡ (e, n) ∷ after) (old now : Totals) (left : ElementsLeft all before old now) where
  here : ElementsLeft all ((e, n) ∷ after) old now
  here = subst (λ (es : List (Element × ℕ)). ElementsLeft all es old now) is left

  pub pair_some : 0 < n
  pair_some = here.some.0

  pub pair_room : HasRoom (of_elements (replicate n e)) now
  pair_room = first_room (split_pair e n after) here.rest

  pub pair_counted : (new : Totals) → Added (of_elements (replicate n e)) now new → ElementsLeft all after old new
  pair_counted new a = record { some = here.some.1; rest = first_added (split_pair e n after) here.rest new a }

pub elements_end : (all left : List (Element × ℕ)) (old now : Totals) → ElementsLeft all left old now → left ≡ [] → Added (of_elements (items all)) old now
elements_end all left old now l none = ended (subst (λ (es : List (Element × ℕ)). ElementsLeft all es old now) none l).rest (λ g. refl) refl refl

-- ---- cells

-- the elements of a cell, before it is weighed itself
pub of_cell_room : (name : List ℕ) (es : List Element) (t : Totals) → HasRoom (of_cell (name, es)) t → HasRoom (of_elements es) t
of_cell_room name es t r = record { tally = r.tally; groups = r.groups; elements = r.elements; weight = omega (arith, r.weight) }

pub cell_weighed : (name : List ℕ) (es : List Element) (old mid new : Totals) → Added (of_elements es) old mid → new.groups ≡ mid.groups → new.elements ≡ mid.elements → new.weight ≡ mid.weight + (1 + length name)
    → Added (of_cell (name, es)) old new
cell_weighed name es old mid new a groups elements weight = record {
  tally = subst (λ (m : BTreeMap Group ℕ). IsTally m.entries) (sym groups) a.tally;
  groups = λ g. ap (λ (m : BTreeMap Group ℕ). number_of m.entries g) groups ∙ a.groups g;
  elements = elements ∙ a.elements;
  weight = omega (arith, weight, a.weight);
}

-- some of the cells were counted, and these are left
pub record CellsLeft (l : Contents) (left : List Cell) (now : Totals) : Type 0 where
  pub are_cells : AllByRecursion (IsCell l.profile) left
  pub rest : Left (of_cells (expanded left)) now (AreTotals (meaning_of l))

-- no element is in more than two groups
if_same_small : (g h : Group) → if_same 1 g h ≤ 1
if_same_small g h = by_test (is_eq (group_cmp h g)) where
  by_test : (b : Bool) → cond b 1 0 ≤ 1
  by_test true = omega arith
  by_test false = omega arith

layer_small : (g : Group) (o : Option Group) → of_layer 1 g o ≤ 1
layer_small g None = omega arith
layer_small g (Some h) = if_same_small g h

count_small : (g : Group) (es : List Element) → count_of g es ≤ 2 * length es
count_small g [] = omega arith
count_small g (e ∷ es) = omega (arith, sum_by-cons (if_in 1 g) e es, in_groups 1 g (kind_of e) (layer_of e), if_same_small g (kind_of e), layer_small g (layer_of e), count_small g es)

cells_small : (g : Group) (cs : List Cell) → (of_cells (expanded cs)).groups g ≤ 2 * element_count (expanded cs)
cells_small g [] = omega arith
cells_small g (c ∷ cs) = omega (arith, count_small g (items c.1), cells_small g cs)

-- no group has an element yet
none_tallied : (ns : List (Group × ℕ)) → ns ≡ [] → IsTally ns
unfolding IsStrictlySortedBy
none_tallied ns e = subst IsTally (sym e) (record { ascending = tt; positive = λ g h. cc })

pub cells_begin : (l : Contents) (left : List Cell) (t : Totals) → IsLayout l → left ≡ l.cells → t.groups.entries ≡ [] → t.elements ≡ 0 → t.weight ≡ 0 → CellsLeft l left t
cells_begin l left t h is groups elements weight = subst (λ (cs : List Cell). CellsLeft l cs t) (sym is) (record {
  are_cells = h.cells;
  rest = record {
    room = record {
      tally = none_tallied t.groups.entries groups;
      groups = λ g. omega (arith, nothing g, cells_small g l.cells, h.few, h.limits.few);
      elements = omega (arith, elements, h.few, h.limits.few);
      weight = omega (arith, weight, h.light, h.limits.light);
    };
    ends = λ new a. record {
      groups = record { tally = a.tally; counts = λ g. omega (arith, a.groups g, nothing g) };
      elements = omega (arith, a.elements, elements);
      weight = omega (arith, a.weight, weight);
    };
  };
}) where
  nothing : (g : Group) → number_of t.groups.entries g ≡ 0
  nothing g = ap (λ (ns : List (Group × ℕ)). number_of ns g) groups

module _ (l : Contents) (before after : List Cell) (c : Cell) (is : before ≡ c ∷ after) (now : Totals) (left : CellsLeft l before now) where
  cells_here : CellsLeft l (c ∷ after) now
  cells_here = subst (λ (cs : List Cell). CellsLeft l cs now) is left

  split_cell : Splits (of_cells (expanded (c ∷ after))) (of_cell (c.0, items c.1)) (of_cells (expanded after))
  split_cell = record { groups = λ g. refl; elements = refl; weight = refl }

  pub cell_some : AllByRecursion (λ p. 0 < p.1) c.1
  cell_some = cells_here.are_cells.0.bag.tally.positive

  pub cell_room : HasRoom (of_cell (c.0, items c.1)) now
  cell_room = first_room split_cell cells_here.rest

  pub cell_counted : (new : Totals) → Added (of_cell (c.0, items c.1)) now new → CellsLeft l after new
  cell_counted new a = record { are_cells = cells_here.are_cells.1; rest = first_added split_cell cells_here.rest new a }

pub cells_end : (l : Contents) (left : List Cell) (now : Totals) → CellsLeft l left now → left ≡ [] → AreTotals (meaning_of l) now
cells_end l left now s none = ended (subst (λ (cs : List Cell). CellsLeft l cs now) none s).rest (λ g. refl) refl refl
