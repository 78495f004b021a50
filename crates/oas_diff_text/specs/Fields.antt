-- The fields of an entry: words of a line, or members of a JSON object.
use Rattle.std.specs.Prelude.{ℕ, ℤ, ◌==◌, List, [], ◌∷◌, ◌++◌, flat_map, codes, decimal, Option, None, Some, if◌then◌else◌}
use Rattle.std.specs.Fmt.{signed_decimal}
use Rattle.std.specs.Borrow.{Bor}
use Rattle.oas_num.specs.Ratio.{Ratio}
use Rattle.oas_ring.specs.declared.point.Point.{Point}
use Rattle.oas_diff_text.specs.Microns.{length_in, microns}
use Rattle.oas_diff_options.specs.declared.format.Syntax.{Syntax}
use Rattle.oas_diff_options.specs.declared.format.Syntax.TheVariants.{Lines, Json}
use Rattle.oas_diff_text.specs.declared.fields.Value.{Value}
use Rattle.oas_diff_text.specs.declared.fields.Value.TheVariants.{Number, Length, Coordinate, Sign, Bytes}

-- ---- strings of JSON

-- a byte of a string; names and strings are printable ASCII
abbrev pub escape : ℕ → List ℕ
escape b =
    if b == 34 then codes "\\\""
    else if b == 92 then codes "\\\\"
    else b ∷ []

abbrev pub escaped : List ℕ → List ℕ
escaped bytes = flat_map escape bytes

abbrev pub quoted : List ℕ → List ℕ
quoted bytes = 34 ∷ (escaped bytes ++ 34 ∷ [])

-- ---- values

-- a length: in grid steps, or in microns by the unit
abbrev pub size : Option Ratio → ℕ → List ℕ
size None n = decimal n
size (Some unit) n = length_in unit n

abbrev pub coordinate : Option Ratio → ℤ → List ℕ
coordinate None z = signed_decimal z
coordinate (Some unit) z = microns unit z

-- a name or a string: as it is, or between quotes
abbrev pub bytes_text : Syntax → List ℕ → List ℕ
bytes_text Lines bytes = bytes
bytes_text Json bytes = quoted bytes

-- X,Y
abbrev pub both : Option Ratio → Point → List ℕ
both scale p = coordinate scale p.x ++ (44 ∷ coordinate scale p.y)

-- X,Y or [X,Y]
abbrev pub place : Syntax → Option Ratio → Point → List ℕ
place Lines scale p = both scale p
place Json scale p = 91 ∷ (both scale p ++ 93 ∷ [])

-- places, with this byte between neighbours
abbrev pub separated : ℕ → Syntax → Option Ratio → List Point → List ℕ
separated byte syntax scale [] = []
separated byte syntax scale (p ∷ ps) = place syntax scale p ++ flat_map (λ q. byte ∷ place syntax scale q) ps

-- X,Y X,Y .. or [[X,Y],[X,Y],..]
abbrev pub places : Syntax → Option Ratio → List Point → List ℕ
places Lines scale ps = separated 32 Lines scale ps
places Json scale ps = 91 ∷ (separated 44 Json scale ps ++ 93 ∷ [])

-- ---- fields

-- what is before a field's value: a space, or a comma and the name
abbrev pub key : Syntax → List ℕ → List ℕ
key Lines name = 32 ∷ []
key Json name = codes ",\"" ++ (name ++ codes "\":")

-- fields by their names and values
abbrev pub fields : Syntax → List (List ℕ × List ℕ) → List ℕ
fields syntax fs = flat_map (λ f. key syntax f.0 ++ f.1) fs

-- ---- as the code has them

abbrev pub value_text : Syntax → Option Ratio → Value → List ℕ
value_text syntax scale (Number n) = decimal n
value_text syntax scale (Length n) = size scale n
value_text syntax scale (Coordinate z) = coordinate scale z
value_text syntax scale (Sign sign) = bytes_text syntax (sign ∷ [])
value_text syntax scale (Bytes bytes) = bytes_text syntax bytes.now

abbrev pub field_texts : Syntax → Option Ratio → List (Bor (List ℕ) × Value) → List ℕ
field_texts syntax scale fs = flat_map (λ f. key syntax f.0.now ++ value_text syntax scale f.1) fs
