-- The lines of the cells' keys, one after another, and how long they are.
use Rattle.std.proofs.Common.{◌≡◌, ℕ, ◌+◌, ◌*◌, ◌≤◌, ◌^◌, List, [], ◌∷◌, ◌++◌, length, flat_map, length-append, sym, ap, subst, arith}
use Rattle.hex.proofs.HexLemmas.{length-encode_with}
use Rattle.hex.specs.Hex.{lower_digits, encode_lower}
use Rattle.sha2.proofs.Facts256.{length-sha256}
use Rattle.oas_num.specs.Ratio.{Ratio}
use Rattle.oas_num.specs.Writing.{Puts, PutsPrefix}
use Rattle.oas_num.proofs.PuttingLemmas.{PutSoFar, begins, fails_at, all_put, ◌▸◌}
use Rattle.oas_elements.specs.declared.element.Element.{Element}
use Rattle.oas_elements.specs.Bag.{items}
use Rattle.oas_elements.specs.Meaning.{cells_weight}
use Rattle.oas_elements.specs.Contents.{Cell, Contents, expanded, meaning_of, IsLayout}
use Rattle.oas_judge.specs.Bytes.{canonical_bytes}
use Rattle.oas_judge.specs.Alone.{alone}
use Rattle.oas_canon.specs.CellKeys.{cell_key, named_key, cell_key_line, cell_key_lines}

-- the line, as its parts are put
pub line_is : (key text name : List ℕ) → text ≡ encode_lower key → named_key key name ≡ text ++ ((32 ∷ 32 ∷ []) ++ (name ++ (10 ∷ [])))
line_is key text name t = ap (λ (xs : List ℕ). xs ++ ((32 ∷ 32 ∷ []) ++ (name ++ (10 ∷ [])))) (sym t)

pub named_is : (unit : Ratio) (c : List ℕ × List Element) (key name : List ℕ) → key ≡ cell_key unit c → c.0 ≡ name → cell_key_line unit c ≡ named_key key name
named_is unit c key name k n = λ i. named_key (sym k i) (n i)

-- ---- one line after another

module _ {K : Type 0} (given : K → List ℕ → K → Type 0) (failures : K → ℕ) (l : Contents) where
  -- the lines of some cells were put, and these are left
  abbrev pub LinesAfter : List Cell → K → K → Type 0
  LinesAfter left old now = PutSoFar given failures (cell_key_lines (meaning_of l)) (flat_map (cell_key_line l.unit) (expanded left)) old now

  pub lines_begin : (left : List Cell) (s : K) → left ≡ l.cells → LinesAfter left s s
  lines_begin left s is = subst (λ (cs : List Cell). LinesAfter cs s s) (sym is) (begins (cell_key_lines (meaning_of l)) s)

  pub lines_end : (left : List Cell) {old now : K} → LinesAfter left old now → left ≡ [] → Puts given failures old (cell_key_lines (meaning_of l)) now
  lines_end left {old} {now} s none = all_put (subst (λ (cs : List Cell). LinesAfter cs old now) none s)

module _ {K : Type 0} {given : K → List ℕ → K → Type 0} {failures : K → ℕ} {old mid : K} (l : Contents) (before after : List Cell) (c : Cell) (is : before ≡ c ∷ after)
    (left : PutSoFar given failures (cell_key_lines (meaning_of l)) (flat_map (cell_key_line l.unit) (expanded before)) old mid) where
  split : PutSoFar given failures (cell_key_lines (meaning_of l)) (cell_key_line l.unit (c.0, items c.1) ++ flat_map (cell_key_line l.unit) (expanded after)) old mid
  split = subst (λ (cs : List Cell). PutSoFar given failures (cell_key_lines (meaning_of l)) (flat_map (cell_key_line l.unit) (expanded cs)) old mid) is left

  pub line_put : {new : K} → Puts given failures mid (cell_key_line l.unit (c.0, items c.1)) new
      → PutSoFar given failures (cell_key_lines (meaning_of l)) (flat_map (cell_key_line l.unit) (expanded after)) old new
  line_put q = split ▸ q

  pub line_fails : {new : K} → PutsPrefix given failures mid (cell_key_line l.unit (c.0, items c.1)) new → PutsPrefix given failures old (cell_key_lines (meaning_of l)) new
  line_fails q = fails_at _ split q

-- ---- their length

length-line : (unit : Ratio) (c : List ℕ × List Element) → length (cell_key_line unit c) ≡ 67 + length c.0
length-line unit c =
    omega (
      arith,
      length-append (encode_lower (cell_key unit c)) ((32 ∷ 32 ∷ []) ++ (c.0 ++ (10 ∷ []))),
      length-append c.0 (10 ∷ []),
      length-encode_with lower_digits (cell_key unit c),
      length-sha256 (canonical_bytes (alone unit c)),
    )

length-lines : (unit : Ratio) (cs : List (List ℕ × List Element)) → length (flat_map (cell_key_line unit) cs) ≤ 67 * cells_weight cs
length-lines unit [] = omega arith
length-lines unit (c ∷ cs) = omega (arith, length-append (cell_key_line unit c) (flat_map (cell_key_line unit) cs), length-line unit c, length-lines unit cs)

-- no layout weighs more than 2^30
pub lines_short : (l : Contents) → IsLayout l → length (cell_key_lines (meaning_of l)) ≤ 67 * 2 ^ 30
lines_short l is = omega (arith, length-lines l.unit (expanded l.cells), is.light, is.limits.light)
