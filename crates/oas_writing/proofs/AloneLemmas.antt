-- A cell alone, which is a layout too.
use Rattle.std.proofs.Common.{◌≡◌, ℕ, zero, suc, ◌+◌, ◌*◌, ◌≤◌, ◌^◌, List, [], ◌∷◌, ◌++◌, length, length-append, append-nil, slice_get, Some, ap, subst, arith}
use Rattle.std.specs.Prelude.{sum_by}
use Rattle.std.specs.List.{AllByRecursion}
use Rattle.std.specs.List.Sorted.{IsStrictlySortedBy}
use Rattle.oas_num.specs.Ratio.{Ratio}
use Rattle.oas_elements.specs.declared.element.Element.{Element}
use Rattle.oas_elements.specs.declared.profile.Profile.{Profile}
use Rattle.oas_elements.specs.Bag.{items}
use Rattle.oas_elements.specs.Contents.{Cell, Contents, expanded, AllSound, IsCell, IsLayout}
use Rattle.oas_elements.specs.Meaning.{element_count, cells_weight}
use Rattle.oas_elements.specs.Weight.{weight_of}
use Rattle.oas_listing.specs.Acceptance.{Means}
use Rattle.oas_listing.specs.Bytes.{opening_bytes, elements_bytes, cell_bytes, head_bytes, end_bytes, canonical_bytes}
use Rattle.oas_listing.specs.Canonical.{CanonicalForm}
use Rattle.oas_listing.proofs.FileLengths.{canonical_length}
use Rattle.oas_listing.proofs.FormLengths.{length-string}
use Rattle.oas_writing.specs.Alone.{alone, HasCell}
use Rattle.oas_writing.proofs.ElementLemmas.{elements_short, items_points}
use Rattle.oas_writing.proofs.LayoutForms.{layout_form, layout_means}

-- ---- what is put

-- its canonical bytes
pub alone_bytes : (u : Ratio) (c : List ℕ × List Element) → canonical_bytes (alone u c) ≡ head_bytes u ++ (cell_bytes c ++ end_bytes)
unfolding canonical_bytes
alone_bytes u c = ap (λ (b : List ℕ). head_bytes u ++ (b ++ end_bytes)) (append-nil (cell_bytes c))

-- they can be counted
pub cell_short : (name : List ℕ) (es : List (Element × ℕ)) → AllSound es → sum_by weight_of (items es) ≤ 2 ^ 30 → length (cell_bytes (name, items es)) ≤ length name + 65 * 2 ^ 30
cell_short name es sound light = omega (arith, length-append (opening_bytes name) (elements_bytes (items es)), length-string name, light, elements_short es sound)

-- there are no more than these
pub alone_short : (unit : Ratio) (name : List ℕ) (es : List (Element × ℕ)) → AllSound es → length (canonical_bytes (alone unit (name, items es))) ≤ 320 + 64 * cells_weight (alone unit (name, items es)).cells
alone_short unit name es sound = canonical_length (alone unit (name, items es)) (items_points es sound, tt)

-- ---- what it is, where a layout has the cell

-- that cell alone, as the layout has it
abbrev only : Contents → Cell → Contents
only l c = record l { cells = c ∷ [] }

cell_is : (profile : Profile) (cs : List Cell) (i : ℕ) (c : Cell) → slice_get cs i ≡ Some c → AllByRecursion (IsCell profile) cs → IsCell profile c
cell_is profile [] i c there h = let no : ⊥ = cc in absurd no
cell_is profile (d ∷ cs) zero c there h = let same : d ≡ c = cc in subst (IsCell profile) same h.0
cell_is profile (d ∷ cs) (suc i) c there h = cell_is profile cs i c there h.1

-- it has no more elements than all cells, and weighs no more
cell_few : (cs : List Cell) (i : ℕ) (c : Cell) → slice_get cs i ≡ Some c → length (items c.1) ≤ element_count (expanded cs)
cell_few [] i c there = let no : ⊥ = cc in absurd no
cell_few (d ∷ cs) zero c there = let same : d ≡ c = cc in omega (arith, ap (λ (c : Cell). length (items c.1)) same)
cell_few (d ∷ cs) (suc i) c there = omega (arith, cell_few cs i c there)

cell_light : (cs : List Cell) (i : ℕ) (c : Cell) → slice_get cs i ≡ Some c → (1 + length c.0) + sum_by weight_of (items c.1) ≤ cells_weight (expanded cs)
cell_light [] i c there = let no : ⊥ = cc in absurd no
cell_light (d ∷ cs) zero c there = let same : d ≡ c = cc in omega (arith, ap (λ (c : Cell). (1 + length c.0) + sum_by weight_of (items c.1)) same)
cell_light (d ∷ cs) (suc i) c there = omega (arith, cell_light cs i c there)

module _ {unit : Ratio} {c : Cell} {l : Contents} (has : HasCell unit c l) where
  only_layout : IsLayout (only l c)
  unfolding IsStrictlySortedBy
  only_layout = record {
    unit = has.layout.unit;
    limits = has.layout.limits;
    cells = (cell_is l.profile l.cells has.place c has.there has.layout.cells, tt);
    ascending = (tt, tt);
    few = omega (arith, has.layout.few, cell_few l.cells has.place c has.there);
    light = omega (arith, has.layout.light, cell_light l.cells has.place c has.there);
  }

pub alone_form : (unit : Ratio) (name : List ℕ) (es : List (Element × ℕ)) (l : Contents) → HasCell unit (name, es) l → CanonicalForm l.limits l.profile (canonical_bytes (alone unit (name, items es)))
alone_form unit name es l has =
    subst (λ (u : Ratio). CanonicalForm l.limits l.profile (canonical_bytes (alone u (name, items es)))) has.unit_is (layout_form (only l (name, es)) (only_layout has))

pub alone_means : (unit : Ratio) (name : List ℕ) (es : List (Element × ℕ)) (l : Contents) → HasCell unit (name, es) l → Means (canonical_bytes (alone unit (name, items es))) (alone unit (name, items es))
alone_means unit name es l has =
    subst (λ (u : Ratio). Means (canonical_bytes (alone u (name, items es))) (alone u (name, items es))) has.unit_is (layout_means (only l (name, es)) (only_layout has))
