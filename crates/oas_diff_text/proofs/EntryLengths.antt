-- No entry is much longer than what its element weighs and its cell's name.
use Rattle.std.proofs.Common.{◌≡◌, ℕ, zero, suc, ◌+◌, ◌*◌, ◌/◌, ◌%◌, ◌≤◌, ◌==◌, Bool, true, false, if◌then◌else◌, List, [], ◌∷◌, ◌++◌, length, flat_map, decimal, Option, None, Some}
use Rattle.std.proofs.Common.{length-append, refl, arith}
use Rattle.std.specs.Prelude.{ℤ, pos, negsuc, nat_abs, codes}
use Rattle.std.specs.Fmt.{signed_decimal}
use Rattle.std.specs.Int.Signed.{lt_z}
use Rattle.oas_num.specs.Ratio.{Ratio}
use Rattle.oas_ring.specs.declared.point.Point.{Point}
use Rattle.oas_elements.specs.declared.element.Element.{Element}
use Rattle.oas_elements.specs.declared.element.Element.TheVariants.{Placement, Text, Rectangle, Polygon, Path, Circle}
use Rattle.oas_elements.specs.Element.{turn_count}
use Rattle.oas_elements.specs.Weight.{weight_of}
use Rattle.oas_listing.specs.Listing.{flip_count, fraction}
use Rattle.oas_listing.proofs.Lengths.{length-decimal, length-element, length-line}
use Rattle.oas_diff_text.specs.Microns.{decimals, pointed, quotient, counted_to, length_in, microns}
use Rattle.oas_diff_text.specs.Fields.{escape, escaped, quoted, size, coordinate, bytes_text, both, place, separated, places, key, fields}
use Rattle.oas_diff_text.specs.Entries.{signed, object, object_line, unit_line, unit_entry, cell_line, cell_entry, place_line, place_entry, kind_name, element_fields, line_in, element_entry, brief_line, brief_entry}
use Rattle.oas_diff_options.specs.declared.format.Syntax.{Syntax}
use Rattle.oas_diff_options.specs.declared.format.Syntax.TheVariants.{Lines, Json}

-- ---- numbers

length-decimals : (den k rest : ℕ) → length (decimals den k rest) ≤ k
length-decimals den zero rest = omega arith
length-decimals den (suc k) zero = omega arith
length-decimals den (suc k) (suc r) = omega (arith, length-decimals den k ((10 * suc r) % den))

length-pointed : (ds : List ℕ) → length (pointed ds) ≤ 1 + length ds
length-pointed [] = omega arith
length-pointed (d ∷ ds) = omega arith

length-quotient : (num den : ℕ) → length (quotient num den) ≤ 129
length-quotient num den =
    omega (
      arith,
      length-append (decimal (num / den)) (pointed (decimals den 64 (num % den))),
      length-decimal (num / den),
      length-pointed (decimals den 64 (num % den)),
      length-decimals den 64 (num % den),
    )

length-microns : (unit : Ratio) (z : ℤ) → length (microns unit z) ≤ 130
length-microns unit z =
    let most = length-quotient (counted_to (nat_abs z) * unit.den) unit.num in
    elim (lt_z z (pos 0)) as (λ b. length (if b then 45 ∷ length_in unit (nat_abs z) else length_in unit (nat_abs z)) ≤ 130) [ true ↦ omega (arith, most) | false ↦ omega (arith, most) ]

length-signed : (z : ℤ) → length (signed_decimal z) ≤ 65
length-signed (pos n) = omega (arith, length-decimal n)
length-signed (negsuc n) = omega (arith, length-decimal (suc n))

length-size : (scale : Option Ratio) (n : ℕ) → length (size scale n) ≤ 130
length-size None n = omega (arith, length-decimal n)
length-size (Some unit) n = omega (arith, length-quotient (counted_to n * unit.den) unit.num)

length-coordinate : (scale : Option Ratio) (z : ℤ) → length (coordinate scale z) ≤ 130
length-coordinate None z = omega (arith, length-signed z)
length-coordinate (Some unit) z = length-microns unit z

-- ---- points

length-both : (scale : Option Ratio) (p : Point) → length (both scale p) ≤ 261
length-both scale p = omega (arith, length-append (coordinate scale p.x) (44 ∷ coordinate scale p.y), length-coordinate scale p.x, length-coordinate scale p.y)

length-place : (syntax : Syntax) (scale : Option Ratio) (p : Point) → length (place syntax scale p) ≤ 263
length-place Lines scale p = omega (arith, length-both scale p)
length-place Json scale p = omega (arith, length-append (both scale p) (93 ∷ []), length-both scale p)

length-rest : (byte : ℕ) (syntax : Syntax) (scale : Option Ratio) (ps : List Point) → length (flat_map (λ q. byte ∷ place syntax scale q) ps) ≤ 264 * length ps
length-rest byte syntax scale [] = omega arith
length-rest byte syntax scale (p ∷ ps) =
    omega (
      arith,
      length-append (byte ∷ place syntax scale p) (flat_map (λ q. byte ∷ place syntax scale q) ps),
      length-place syntax scale p,
      length-rest byte syntax scale ps,
    )

length-separated : (byte : ℕ) (syntax : Syntax) (scale : Option Ratio) (ps : List Point) → length (separated byte syntax scale ps) ≤ 264 * length ps
length-separated byte syntax scale [] = omega arith
length-separated byte syntax scale (p ∷ ps) =
    omega (
      arith,
      length-append (place syntax scale p) (flat_map (λ q. byte ∷ place syntax scale q) ps),
      length-place syntax scale p,
      length-rest byte syntax scale ps,
    )

length-places : (syntax : Syntax) (scale : Option Ratio) (ps : List Point) → length (places syntax scale ps) ≤ 2 + 264 * length ps
length-places Lines scale ps = omega (arith, length-separated 32 Lines scale ps)
length-places Json scale ps = omega (arith, length-append (separated 44 Json scale ps) (93 ∷ []), length-separated 44 Json scale ps)

-- ---- strings

length-escape : (b : ℕ) → length (escape b) ≤ 2
length-escape b = elim (b == 34) as (λ t. length (if t then codes "\\\"" else if b == 92 then codes "\\\\" else b ∷ []) ≤ 2) [
  | true ↦ omega arith
  | false ↦ elim (b == 92) as (λ t. length (if t then codes "\\\\" else b ∷ []) ≤ 2) [ true ↦ omega arith | false ↦ omega arith ]
]

length-escaped : (bytes : List ℕ) → length (escaped bytes) ≤ 2 * length bytes
length-escaped [] = omega arith
length-escaped (b ∷ bs) = omega (arith, length-append (escape b) (escaped bs), length-escape b, length-escaped bs)

length-quoted : (bytes : List ℕ) → length (quoted bytes) ≤ 2 + 2 * length bytes
length-quoted bytes = omega (arith, length-append (escaped bytes) (34 ∷ []), length-escaped bytes)

length-bytes : (syntax : Syntax) (bytes : List ℕ) → length (bytes_text syntax bytes) ≤ 2 + 2 * length bytes
length-bytes Lines bytes = omega arith
length-bytes Json bytes = length-quoted bytes

-- ---- fields

-- the names, the values, and what is between them
abbrev pub taken : List (List ℕ × List ℕ) → ℕ
taken [] = 0
taken (f ∷ fs) = 4 + length f.0 + length f.1 + taken fs

length-key : (syntax : Syntax) (name : List ℕ) → length (key syntax name) ≤ 4 + length name
length-key Lines name = omega arith
length-key Json name = omega (arith, length-append name (codes "\":"))

length-fields : (syntax : Syntax) (fs : List (List ℕ × List ℕ)) → length (fields syntax fs) ≤ taken fs
length-fields syntax [] = omega arith
length-fields syntax (f ∷ fs) =
    omega (
      arith,
      length-append (key syntax f.0 ++ f.1) (fields syntax fs),
      length-append (key syntax f.0) f.1,
      length-key syntax f.0,
      length-fields syntax fs,
    )

length-object : (kind : List ℕ) (members : List (List ℕ × List ℕ)) → length (object kind members) ≤ 13 + 2 * length kind + taken members
length-object kind members =
    omega (
      arith,
      length-append (quoted kind) (fields Json members ++ codes "}\n"),
      length-append (fields Json members) (codes "}\n"),
      length-quoted kind,
      length-fields Json members,
    )

-- ---- elements

taken-element : (syntax : Syntax) (scale : Option Ratio) (e : Element) → taken (element_fields syntax scale e) ≤ 1024 * weight_of e
taken-element syntax scale (Placement cell x y turns flip) =
    omega (
      arith,
      length-bytes syntax cell,
      length-coordinate scale x,
      length-coordinate scale y,
      length-decimal (turn_count turns),
      length-decimal (flip_count flip),
    )
taken-element syntax scale (Text string textlayer texttype x y) =
    omega (
      arith,
      length-decimal textlayer,
      length-decimal texttype,
      length-coordinate scale x,
      length-coordinate scale y,
      length-bytes syntax string,
    )
taken-element syntax scale (Rectangle layer datatype width height x y) =
    omega (
      arith,
      length-decimal layer,
      length-decimal datatype,
      length-size scale width,
      length-size scale height,
      length-coordinate scale x,
      length-coordinate scale y,
    )
taken-element syntax scale (Polygon layer datatype points) =
    omega (arith, length-decimal layer, length-decimal datatype, length-places syntax scale points)
taken-element syntax scale (Path layer datatype half_width start end points) =
    omega (
      arith,
      length-decimal layer,
      length-decimal datatype,
      length-size scale half_width,
      length-coordinate scale start,
      length-coordinate scale end,
      length-places syntax scale points,
    )
taken-element syntax scale (Circle layer datatype radius x y) =
    omega (
      arith,
      length-decimal layer,
      length-decimal datatype,
      length-size scale radius,
      length-coordinate scale x,
      length-coordinate scale y,
    )

length-kind : (e : Element) → length (kind_name e) ≤ 9
length-kind (Placement cell x y turns flip) = omega arith
length-kind (Text string textlayer texttype x y) = omega arith
length-kind (Rectangle layer datatype width height x y) = omega arith
length-kind (Polygon layer datatype points) = omega arith
length-kind (Path layer datatype half_width start end points) = omega arith
length-kind (Circle layer datatype radius x y) = omega arith

length-line_in : (scale : Option Ratio) (e : Element) → length (line_in scale e) ≤ 10 + 1024 * weight_of e
length-line_in None e = omega (arith, length-element e)
length-line_in (Some unit) e =
    omega (
      arith,
      length-append (kind_name e) (fields Lines (element_fields Lines (Some unit) e) ++ 10 ∷ []),
      length-append (fields Lines (element_fields Lines (Some unit) e)) (10 ∷ []),
      length-kind e,
      length-fields Lines (element_fields Lines (Some unit) e),
      taken-element Lines (Some unit) e,
    )

length-signed_line : (sign count : ℕ) (text : List ℕ) → length (signed sign count text) ≤ 67 + length text
length-signed_line sign count text = omega (arith, length-append (decimal count) (32 ∷ text), length-decimal count)

pub length-element_entry : (syntax : Syntax) (scale : Option Ratio) (name : List ℕ) (sign count : ℕ) (e : Element) →
    length (element_entry syntax scale name sign count e) ≤ 200 + 2 * length name + 2048 * weight_of e
length-element_entry Lines scale name sign count e = omega (arith, length-signed_line sign count (line_in scale e), length-line_in scale e)
length-element_entry Json scale name sign count e =
    let members = ((codes "sign", quoted (sign ∷ [])) ∷ (codes "count", decimal count) ∷ (codes "cell", quoted name) ∷ []) ++ element_fields Json scale e in
    omega (
      arith,
      length-object (kind_name e) members,
      length-kind e,
      length-quoted (sign ∷ []),
      length-decimal count,
      length-quoted name,
      taken-element Json scale e,
    )

-- ---- cells

length-cell_line : (name : List ℕ) → length (cell_line name) ≡ 6 + length name
length-cell_line name = omega (arith, length-line (codes "cell") (name ∷ []))

pub length-cell_entry : (syntax : Syntax) (sign : ℕ) (name : List ℕ) → length (cell_entry syntax sign name) ≤ 200 + 2 * length name
length-cell_entry Lines sign name = omega (arith, length-signed_line sign 1 (cell_line name), length-cell_line name)
length-cell_entry Json sign name =
    omega (
      arith,
      length-object (codes "cell") ((codes "sign", quoted (sign ∷ [])) ∷ (codes "count", decimal 1) ∷ (codes "cell", quoted name) ∷ []),
      length-quoted (sign ∷ []),
      length-decimal 1,
      length-quoted name,
    )

pub length-place_entry : (syntax : Syntax) (name : List ℕ) → length (place_entry syntax name) ≤ 200 + 2 * length name
length-place_entry Lines name = omega (arith, length-line (codes "@") (codes "cell" ∷ name ∷ []))
length-place_entry Json name = omega arith

length-brief_line : (sign : ℕ) (name : List ℕ) (n m : ℕ) → length (brief_line sign name n m) ≤ 200 + length name
length-brief_line sign name n m =
    omega (
      arith,
      length-append name ((codes " - " ++ decimal n) ++ ((codes " + " ++ decimal m) ++ 10 ∷ [])),
      length-append (decimal n) ((codes " + " ++ decimal m) ++ 10 ∷ []),
      length-append (decimal m) (10 ∷ []),
      length-decimal n,
      length-decimal m,
    )

pub length-brief_entry : (syntax : Syntax) (sign : ℕ) (name : List ℕ) (n m : ℕ) → length (brief_entry syntax sign name n m) ≤ 200 + 2 * length name
length-brief_entry Lines sign name n m = omega (arith, length-brief_line sign name n m)
length-brief_entry Json sign name n m =
    omega (
      arith,
      length-object (codes "cell") ((codes "sign", quoted (sign ∷ [])) ∷ (codes "cell", quoted name) ∷ (codes "removed", decimal n) ∷ (codes "added", decimal m) ∷ []),
      length-quoted (sign ∷ []),
      length-quoted name,
      length-decimal n,
      length-decimal m,
    )

-- ---- the unit

pub length-unit_entry : (syntax : Syntax) (sign : ℕ) (unit : Ratio) → length (unit_entry syntax sign unit) ≤ 300
length-unit_entry Lines sign unit =
    omega (
      arith,
      length-signed_line sign 1 (unit_line unit),
      length-line (codes "unit") (fraction unit ∷ []),
      length-append (decimal unit.num) (47 ∷ decimal unit.den),
      length-decimal unit.num,
      length-decimal unit.den,
    )
length-unit_entry Json sign unit =
    omega (
      arith,
      length-object (codes "unit") ((codes "sign", quoted (sign ∷ [])) ∷ (codes "count", decimal 1) ∷ (codes "num", decimal unit.num) ∷ (codes "den", decimal unit.den) ∷ []),
      length-quoted (sign ∷ []),
      length-decimal 1,
      length-decimal unit.num,
      length-decimal unit.den,
    )
