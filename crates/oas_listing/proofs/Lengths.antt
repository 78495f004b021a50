-- No line is much longer than what its element weighs.
use Rattle.std.proofs.Common.{◌≡◌, ℕ, zero, suc, ◌+◌, ◌*◌, ◌^◌, ◌/◌, ◌%◌, ◌==◌, ◌≤◌, Bool, true, false, if◌then◌else◌, List, [], ◌∷◌, length, map, flat_map, sum_by, decimal}
use Rattle.std.proofs.Common.{length-append, refl, arith}
use Rattle.std.specs.Prelude.{ℤ, pos, negsuc, codes}
use Rattle.std.specs.Fmt.{digits, digits_onto, digit_glyph, signed_decimal}
use Rattle.std.proofs.lemmas.List.Sums.{sum_by-cons}
use Rattle.oas_ring.specs.declared.point.Point.{Point}
use Rattle.oas_elements.specs.declared.element.Element.{Element}
use Rattle.oas_elements.specs.declared.element.Element.TheVariants.{Placement, Text, Rectangle, Polygon, Path, Circle}
use Rattle.oas_elements.specs.Element.{turn_count}
use Rattle.oas_elements.specs.Weight.{weight_of}
use Rattle.oas_elements.specs.Meaning.{Meaning, cells_weight}
use Rattle.oas_elements.specs.Contents.{Contents, meaning_of, IsLayout}
use Rattle.oas_listing.specs.Lines.{behind_spaces, spaced, line}
use Rattle.oas_listing.specs.Listing.{pair, fraction, flip_count, element_line, cell_lines, listing}

-- ---- numbers

either : (b : Bool) (xs ys : List ℕ) (n : ℕ) → length xs ≤ n → length ys ≤ n → length (if b then xs else ys) ≤ n
either true xs ys n p q = p
either false xs ys n p q = q

length-digits_onto : (k n : ℕ) (acc : List ℕ) → length (digits_onto k 10 false n acc) ≤ k + length acc
length-digits_onto zero n acc = omega arith
length-digits_onto (suc k) n acc =
    either (n / 10 == 0) (digit_glyph false (n % 10) ∷ acc) (digits_onto k 10 false (n / 10) (digit_glyph false (n % 10) ∷ acc)) (suc k + length acc)
    (omega arith) (omega (arith, length-digits_onto k (n / 10) (digit_glyph false (n % 10) ∷ acc)))

pub length-decimal : (n : ℕ) → length (decimal n) ≤ 64
unfolding digits
length-decimal n = length-digits_onto 64 n []

length-signed : (z : ℤ) → length (signed_decimal z) ≤ 65
length-signed (pos n) = omega (arith, length-decimal n)
length-signed (negsuc n) = omega (arith, length-decimal (suc n))

length-pair : (p : Point) → length (pair p) ≤ 131
length-pair p = omega (arith, length-append (signed_decimal p.x) (44 ∷ signed_decimal p.y), length-signed p.x, length-signed p.y)

-- ---- lines

-- the fields, and a space before each
abbrev pub taken : List (List ℕ) → ℕ
taken [] = 0
taken (field ∷ fields) = 1 + length field + taken fields

length-fields : (fields : List (List ℕ)) → length (behind_spaces fields) ≡ taken fields
length-fields [] = refl
length-fields (field ∷ fields) = omega (arith, length-append (32 ∷ field) (behind_spaces fields), length-fields fields)

pub length-line : (word : List ℕ) (fields : List (List ℕ)) → length (line (word ∷ fields)) ≡ length word + taken fields + 1
length-line word fields = omega (arith, length-append (spaced (word ∷ fields)) (10 ∷ []), length-append word (behind_spaces fields), length-fields fields)

length-points : (ps : List Point) → taken (map pair ps) ≤ 132 * length ps
length-points [] = omega arith
length-points (p ∷ ps) = omega (arith, length-pair p, length-points ps)

pub length-element : (e : Element) → length (element_line e) ≤ 512 * weight_of e
length-element (Placement cell x y turns flip) =
    omega (
      arith,
      length-line (codes "placement") (cell ∷ signed_decimal x ∷ signed_decimal y ∷ decimal (turn_count turns) ∷ decimal (flip_count flip)
          ∷ []),
      length-signed x,
      length-signed y,
      length-decimal (turn_count turns),
      length-decimal (flip_count flip),
    )
length-element (Text string textlayer texttype x y) =
    omega (
      arith,
      length-line (codes "text") (decimal textlayer ∷ decimal texttype ∷ signed_decimal x ∷ signed_decimal y ∷ string ∷ []),
      length-decimal textlayer,
      length-decimal texttype,
      length-signed x,
      length-signed y,
    )
length-element (Rectangle layer datatype width height x y) =
    omega (
      arith,
      length-line (codes "rectangle") (decimal layer ∷ decimal datatype ∷ decimal width ∷ decimal height ∷ signed_decimal x
          ∷ signed_decimal y ∷ []),
      length-decimal layer,
      length-decimal datatype,
      length-decimal width,
      length-decimal height,
      length-signed x,
      length-signed y,
    )
length-element (Polygon layer datatype points) =
    omega (arith, length-line (codes "polygon") (decimal layer ∷ decimal datatype ∷ map pair points), length-decimal layer, length-decimal datatype, length-points points)
length-element (Path layer datatype half_width start end points) =
    omega (
      arith,
      length-line (codes "path") (decimal layer ∷ decimal datatype ∷ decimal half_width ∷ signed_decimal start ∷ signed_decimal end
          ∷ map pair points),
      length-decimal layer,
      length-decimal datatype,
      length-decimal half_width,
      length-signed start,
      length-signed end,
      length-points points,
    )
length-element (Circle layer datatype radius x y) =
    omega (
      arith,
      length-line (codes "circle") (decimal layer ∷ decimal datatype ∷ decimal radius ∷ signed_decimal x ∷ signed_decimal y ∷ []),
      length-decimal layer,
      length-decimal datatype,
      length-decimal radius,
      length-signed x,
      length-signed y,
    )

length-elements : (es : List Element) → length (flat_map element_line es) ≤ 512 * sum_by weight_of es
length-elements [] = omega arith
length-elements (e ∷ es) = omega (arith, length-append (element_line e) (flat_map element_line es), length-element e, length-elements es, sum_by-cons weight_of e es)

length-cells : (cs : List (List ℕ × List Element)) → length (flat_map cell_lines cs) ≤ 512 * cells_weight cs
length-cells [] = omega arith
length-cells (c ∷ cs) =
    omega (
      arith,
      length-append (cell_lines c) (flat_map cell_lines cs),
      length-append (line (codes "cell" ∷ c.0 ∷ [])) (flat_map element_line c.1),
      length-line (codes "cell") (c.0 ∷ []),
      length-elements c.1,
      length-cells cs,
    )

-- the listing of a layout is not much longer than the layout's weight
length-listing : (m : Meaning) → length (listing m) ≤ 136 + 512 * cells_weight m.cells
length-listing m =
    omega (
      arith,
      length-append (line (codes "unit" ∷ fraction m.unit ∷ [])) (flat_map cell_lines m.cells),
      length-line (codes "unit") (fraction m.unit ∷ []),
      length-append (decimal m.unit.num) (47 ∷ decimal m.unit.den),
      length-decimal m.unit.num,
      length-decimal m.unit.den,
      length-cells m.cells,
    )

-- and no layout weighs more than 2^30
pub short_enough : (l : Contents) → IsLayout l → length (listing (meaning_of l)) ≤ 136 + 512 * 2 ^ 30
short_enough l is = omega (arith, length-listing (meaning_of l), is.light, is.limits.light)
