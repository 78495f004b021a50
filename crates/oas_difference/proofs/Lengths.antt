-- The difference of two layouts is short enough for its length to be counted.
use Rattle.std.proofs.Common.{◌≡◌, ℕ, ◌+◌, ◌*◌, ◌^◌, ◌<◌, ◌≤◌, zero, suc, List, [], ◌∷◌, ◌++◌, length, sum_by, Bool, true, false, Option, None, Some, unwrap_or}
use Rattle.std.proofs.Common.{flat_map, replicate, length-append, refl, ap, arith}
use Rattle.std.specs.Prelude.{nat_lt, map, ◌-◌, ◌==◌, if◌then◌else◌}
use Rattle.std.specs.Borrow.{Bor}
use Rattle.std.specs.Ordering.{nat_cmp}
use Rattle.std.specs.Cmp.{IsTotalOrder}
use Rattle.std.specs.Cmp.Lexicographic.{slice_cmp, nat_list_cmp_total}
use Rattle.std.specs.List.{AllByRecursion}
use Rattle.std.specs.Map.{keys_of}
use Rattle.std.proofs.lemmas.List.Sums.{sum_by-cons, sum_by-append}
use Rattle.std.proofs.lemmas.Map.Lookups.{exact_bytes}
use Rattle.oas_num.specs.Ratio.{Ratio}
use Rattle.oas_elements.specs.declared.profile.Profile.{Profile}
use Rattle.oas_elements.specs.declared.element.Element.{Element}
use Rattle.oas_elements.specs.declared.element.Element.TheVariants.{Placement, Text, Rectangle, Polygon, Path, Circle}
use Rattle.oas_elements.specs.Element.{element_cmp}
use Rattle.oas_elements.specs.Laws.ElementLaws.{element_total, exact_elements}
use Rattle.oas_elements.specs.Bag.{items}
use Rattle.oas_elements.specs.Weight.{weight_of}
use Rattle.oas_elements.specs.Meaning.{cells_weight}
use Rattle.oas_elements.specs.Contents.{Cell, Contents, expanded, IsCell, IsLayout}
use Rattle.oas_elements.specs.Laws.BagLaws.{total, sum_by-items}
use Rattle.oas_difference.specs.Ascending.{ascending}
use Rattle.oas_difference.specs.Pairs.{found}
use Rattle.oas_difference.specs.Changed.{change_at}
use Rattle.oas_diff_text.specs.Entries.{unit_entry, cell_entry, place_entry, element_entry}
use Rattle.oas_difference.specs.Format.{notation_of}
use Rattle.oas_difference.specs.Difference.{same_ratio, unit_changes, change_entry, below_name}
use Rattle.oas_difference.specs.Brief.{only_first, only_second, brief_sign, signed_brief}
use Rattle.oas_difference.specs.Held.{pair_changed, held_changes, held_changed, held_cell, held_brief, held_by, held_lines}
use Rattle.oas_diff_text.specs.Microns.{counted_to}
use Rattle.oas_diff_options.specs.declared.format.Syntax.{Syntax}
use Rattle.oas_diff_options.specs.declared.format.Format.{Format}
use Rattle.oas_difference.specs.declared.notation.Notation.{Notation}
use Rattle.oas_diff_options.specs.Choice.{or_empty}
use Rattle.oas_diff_options.specs.declared.choice.ChosenLayer.{ChosenLayer}
use Rattle.oas_diff_options.specs.declared.options.Detail.{Detail}
use Rattle.oas_diff_options.specs.declared.options.Detail.TheVariants.{Elements, Counts}
use Rattle.oas_diff_text.proofs.EntryLengths.{length-element_entry, length-cell_entry, length-place_entry, length-unit_entry, length-brief_entry}
use Rattle.oas_difference.proofs.Held.{pairs_are}
use Rattle.oas_difference.proofs.Sums.{sum_ascending, sorted_ascending, two_sums, length-texts, weight_if, entries_sum, sum_found}

-- ---- numbers beside elements

pub unwrapped : (e : Element) (o : Option ℕ) → unwrap_or o 0 ≡ weight_if element_cmp element_total exact_elements (λ e n. n) e o
unfolding weight_if
unwrapped e None = refl
unwrapped e (Some n) = refl

copies : (n : ℕ) (e : Element) → length (replicate n e) ≡ n
copies zero e = refl
copies (suc n) e = ap suc (copies n e)

-- they are as many as the elements
pub held_length : (es : List (Element × ℕ)) → entries_sum element_cmp element_total exact_elements (λ e n. n) es ≡ length (items es)
unfolding entries_sum
held_length [] = refl
held_length (p ∷ ps) = omega (arith, length-append (replicate p.1 p.0) (items ps), copies p.1 p.0, held_length ps)

-- ---- the lines of a cell

-- the longest entry of a change: an object has the cell's name
line_most : List ℕ → Element → ℕ
line_most name e = 200 + 2 * length name + 2048 * weight_of e

module _ (notation : Notation) (name : List ℕ) where
  length-change_entry : (c : Element × (ℕ × ℕ)) → length (change_entry notation name c) ≤ line_most name c.0
  unfolding line_most
  length-change_entry c =
      elim (nat_lt c.1.1 c.1.0) as (λ b. length (if b then element_entry notation.syntax notation.before name 45 (c.1.0 - c.1.1) c.0
      else element_entry notation.syntax notation.after name 43 (c.1.1 - c.1.0) c.0) ≤ 200 + 2 * length name + 2048 * weight_of c.0) [
        | true ↦ length-element_entry notation.syntax notation.before name 45 (c.1.0 - c.1.1) c.0
        | false ↦ length-element_entry notation.syntax notation.after name 43 (c.1.1 - c.1.0) c.0
      ]

  length-at : (e : Element) (n m : ℕ) (rest : List (Element × (ℕ × ℕ))) →
      length (flat_map (change_entry notation name) (change_at e n m ++ rest)) ≤ line_most name e + length (flat_map (change_entry notation name) rest)
  length-at e n m rest =
      elim (n == m) as (λ b. length (flat_map (change_entry notation name) ((if b then [] else (e, (n, m)) ∷ []) ++ rest)) ≤ line_most name e + length (flat_map (change_entry notation name) rest)) [
        | true ↦ omega arith
        | false ↦ omega (arith, length-append (change_entry notation name (e, (n, m))) (flat_map (change_entry notation name) rest), length-change_entry (e, (n, m)))
      ]

  module _ (es fs : List (Element × ℕ)) where
    length-pairs : (ks : List Element) →
        length (flat_map (change_entry notation name) (flat_map pair_changed (map (λ k. (k, (found element_cmp es k, found element_cmp fs k))) ks))) ≤ sum_by (line_most name) ks
    length-pairs [] = omega arith
    length-pairs (k ∷ ks) =
        omega (
          arith,
          length-at k (unwrap_or (found element_cmp es k) 0) (unwrap_or (found element_cmp fs k) 0)
              (flat_map pair_changed (map (λ k. (k, (found element_cmp es k, found element_cmp fs k))) ks)),
          sum_by-cons (line_most name) k ks,
          length-pairs ks,
        )

    length-changes : length (held_changes notation name es fs) ≤ sum_by (line_most name) (keys_of es) + sum_by (line_most name) (keys_of fs)
    length-changes =
        omega (
          arith,
          length-pairs (ascending element_cmp (keys_of es ++ keys_of fs)),
          sum_ascending element_cmp (line_most name) (keys_of es ++ keys_of fs),
          sum_by-append (line_most name) (keys_of es) (keys_of fs),
        )

-- at most what a cell gives
cell_most : List ℕ → List (Element × ℕ) → ℕ
cell_most name es = 300 + 2 * length name + sum_by (line_most name) (keys_of es)

length-below : (syntax : Syntax) (b c : Bool) (name changes : List ℕ) → length (below_name syntax b c name changes) ≤ 200 + 2 * length name + length changes
length-below syntax true true name [] = omega arith
length-below syntax true true name (x ∷ xs) = omega (arith, length-append (place_entry syntax name) (x ∷ xs), length-place_entry syntax name)
length-below syntax true false name changes = omega (arith, length-append (cell_entry syntax 45 name) changes, length-cell_entry syntax 45 name)
length-below syntax false true name changes = omega (arith, length-append (cell_entry syntax 43 name) changes, length-cell_entry syntax 43 name)
length-below syntax false false name changes = omega arith

names_total : IsTotalOrder (slice_cmp nat_cmp)
names_total = nat_list_cmp_total

module _ (notation : Notation) where
  length-held_cell : (name : List ℕ) (x y : Option (List (Element × ℕ))) → length (held_cell notation (name, (x, y)))
      ≤ weight_if (slice_cmp nat_cmp) names_total exact_bytes cell_most name x + weight_if (slice_cmp nat_cmp) names_total exact_bytes cell_most name y
  unfolding weight_if cell_most
  length-held_cell name None None = omega arith
  length-held_cell name (Some es) None =
      omega (arith, length-below notation.syntax true false name (held_changes notation name es []), length-changes notation name es [])
  length-held_cell name None (Some fs) =
      omega (arith, length-below notation.syntax false true name (held_changes notation name [] fs), length-changes notation name [] fs)
  length-held_cell name (Some es) (Some fs) =
      omega (arith, length-below notation.syntax true true name (held_changes notation name es fs), length-changes notation name es fs)

length-signed_brief : (syntax : Syntax) (o : Option ℕ) (name : List ℕ) (n m : ℕ) → length (signed_brief syntax o name n m) ≤ 200 + 2 * length name
length-signed_brief syntax None name n m = omega arith
length-signed_brief syntax (Some sign) name n m = length-brief_entry syntax sign name n m

length-held_brief : (syntax : Syntax) (name : List ℕ) (x y : Option (List (Element × ℕ))) → length (held_brief syntax (name, (x, y)))
    ≤ weight_if (slice_cmp nat_cmp) names_total exact_bytes cell_most name x + weight_if (slice_cmp nat_cmp) names_total exact_bytes cell_most name y
unfolding weight_if cell_most
length-held_brief syntax name None None = omega arith
length-held_brief syntax name (Some es) None =
    omega (arith, length-brief_entry syntax 45 name (counted_to (only_first (held_changed es []))) (counted_to (only_second (held_changed es []))))
length-held_brief syntax name None (Some fs) =
    omega (arith, length-brief_entry syntax 43 name (counted_to (only_first (held_changed [] fs))) (counted_to (only_second (held_changed [] fs))))
length-held_brief syntax name (Some es) (Some fs) =
    let n : ℕ = counted_to (only_first (held_changed es fs)) in
    let m : ℕ = counted_to (only_second (held_changed es fs)) in
    omega (arith, length-signed_brief syntax (brief_sign true true n m) name n m)

module _ (notation : Notation) where
  length-held_by : (detail : Detail) (name : List ℕ) (x y : Option (List (Element × ℕ))) → length (held_by detail notation (name, (x, y)))
      ≤ weight_if (slice_cmp nat_cmp) names_total exact_bytes cell_most name x + weight_if (slice_cmp nat_cmp) names_total exact_bytes cell_most name y
  length-held_by Elements name x y = length-held_cell notation name x y
  length-held_by Counts name x y = length-held_brief notation.syntax name x y

  -- where a cell that is not there has no elements
  length-set : (layers : Option (Bor (List ChosenLayer))) (detail : Detail) (name : List ℕ) (x y : Option (List (Element × ℕ))) →
      length (held_by detail notation (name, (or_empty layers x, or_empty layers y)))
      ≤ weight_if (slice_cmp nat_cmp) names_total exact_bytes cell_most name x + weight_if (slice_cmp nat_cmp) names_total exact_bytes cell_most name y
  unfolding weight_if cell_most
  length-set None detail name x y = length-held_by detail name x y
  length-set (Some l) detail name (Some es) (Some fs) = length-held_by detail name (Some es) (Some fs)
  length-set (Some l) Elements name None None = omega arith
  length-set (Some l) Elements name (Some es) None =
      omega (arith, length-below notation.syntax true true name (held_changes notation name es []), length-changes notation name es [])
  length-set (Some l) Elements name None (Some fs) =
      omega (arith, length-below notation.syntax true true name (held_changes notation name [] fs), length-changes notation name [] fs)
  length-set (Some l) Counts name None None = omega arith
  length-set (Some l) Counts name (Some es) None =
      let n : ℕ = counted_to (only_first (held_changed es [])) in
      let m : ℕ = counted_to (only_second (held_changed es [])) in
      omega (arith, length-signed_brief notation.syntax (brief_sign true true n m) name n m)
  length-set (Some l) Counts name None (Some fs) =
      let n : ℕ = counted_to (only_first (held_changed [] fs)) in
      let m : ℕ = counted_to (only_second (held_changed [] fs)) in
      omega (arith, length-signed_brief notation.syntax (brief_sign true true n m) name n m)

  length-held_lines : (layers : Option (Bor (List ChosenLayer))) (detail : Detail) (cs ds : List Cell) → length (held_lines layers detail notation cs ds)
      ≤ entries_sum (slice_cmp nat_cmp) names_total exact_bytes cell_most cs + entries_sum (slice_cmp nat_cmp) names_total exact_bytes cell_most ds
  length-held_lines layers detail cs ds =
      let R = slice_cmp nat_cmp in
      let ks = ascending R (keys_of cs ++ keys_of ds) in
      let s = sorted_ascending R names_total (keys_of cs ++ keys_of ds) in
      let line : List ℕ → List ℕ = λ k. held_by detail notation (k, (or_empty layers (found R cs k), or_empty layers (found R ds k))) in
      omega (
        arith,
        ap length (pairs_are layers (held_by detail notation) cs ds),
        length-texts line ks,
        two_sums (λ k. length (line k)) (λ k. weight_if R names_total exact_bytes cell_most k (found R cs k)) (λ k. weight_if R names_total exact_bytes cell_most k (found R ds k))
            (λ k. length-set layers detail k (found R cs k) (found R ds k)) ks,
        sum_found R names_total exact_bytes cell_most ks s cs,
        sum_found R names_total exact_bytes cell_most ks s ds,
      )

-- ---- by what the cells weigh

at_least_once : (n w : ℕ) → 0 < n → w ≤ n * w
at_least_once zero w h = absurd (omega (arith, h))
at_least_once (suc n) w h = omega arith

weighs_one : (e : Element) → 1 ≤ weight_of e
weighs_one (Placement cell x y turns flip) = omega arith
weighs_one (Text string textlayer texttype x y) = omega arith
weighs_one (Rectangle layer datatype width height x y) = omega arith
weighs_one (Polygon layer datatype points) = omega arith
weighs_one (Path layer datatype half_width start end points) = omega arith
weighs_one (Circle layer datatype radius x y) = omega arith

-- a name is shorter than the layout's weight
lines_weigh : (name : List ℕ) (es : List (Element × ℕ)) → length name ≤ 2 ^ 30 → AllByRecursion (λ p. 0 < p.1) es →
    sum_by (line_most name) (keys_of es) ≤ (2248 + 2 ^ 31) * total weight_of es
unfolding line_most
lines_weigh name [] few h = omega arith
lines_weigh name (p ∷ ps) few h =
    omega (arith, few, sum_by-cons (line_most name) p.0 (keys_of ps), weighs_one p.0, at_least_once p.1 (weight_of p.0) h.0, lines_weigh name ps few h.1)

cells_weigh : (profile : Profile) (cs : List Cell) → AllByRecursion (IsCell profile) cs → cells_weight (expanded cs) ≤ 2 ^ 30 →
    entries_sum (slice_cmp nat_cmp) names_total exact_bytes cell_most cs ≤ (2248 + 2 ^ 31) * cells_weight (expanded cs)
unfolding entries_sum cell_most
cells_weigh profile [] h light = omega arith
cells_weigh profile (c ∷ cs) h light =
    omega (
      arith,
      light,
      lines_weigh c.0 c.1 (omega (arith, light)) h.0.bag.tally.positive,
      sum_by-items weight_of c.1,
      cells_weigh profile cs h.1 (omega (arith, light)),
    )

length-units : (syntax : Syntax) (u v : Ratio) → length (unit_changes syntax u v) ≤ 600
length-units syntax u v =
    elim (same_ratio u v) as (λ b. length (if b then [] else unit_entry syntax 45 u ++ unit_entry syntax 43 v) ≤ 600) [
      | true ↦ omega arith
      | false ↦ omega (arith, length-append (unit_entry syntax 45 u) (unit_entry syntax 43 v), length-unit_entry syntax 45 u, length-unit_entry syntax 43 v)
    ]

-- and no layout weighs more than 2^30
pub short_enough : (layers : Option (Bor (List ChosenLayer))) (detail : Detail) (format : Format) (a b : Contents) → IsLayout a → IsLayout b →
    length (unit_changes format.syntax a.unit b.unit ++ held_lines layers detail (notation_of format a.unit b.unit) a.cells b.cells) < 2 ^ 63
short_enough layers detail format a b k l =
    let notation = notation_of format a.unit b.unit in
    let one : cells_weight (expanded a.cells) ≤ 2 ^ 30 = omega (arith, k.light, k.limits.light) in
    let two : cells_weight (expanded b.cells) ≤ 2 ^ 30 = omega (arith, l.light, l.limits.light) in
    omega (
      arith,
      length-append (unit_changes format.syntax a.unit b.unit) (held_lines layers detail notation a.cells b.cells),
      length-units format.syntax a.unit b.unit,
      length-held_lines notation layers detail a.cells b.cells,
      cells_weigh a.profile a.cells k.cells one,
      cells_weigh b.profile b.cells l.cells two,
      one,
      two,
    )
