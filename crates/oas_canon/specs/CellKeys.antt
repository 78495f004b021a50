-- The keys of a layout's cells.
use Rattle.std.specs.Prelude.{ℕ, List, [], ◌∷◌, ◌++◌, flat_map}
use Rattle.hex.specs.Hex.{encode_lower}
use Rattle.sha2.specs.Sha256.{sha256}
use Rattle.oas_num.specs.Ratio.{Ratio}
use Rattle.oas_elements.specs.declared.element.Element.{Element}
use Rattle.oas_elements.specs.Meaning.{Meaning}
use Rattle.oas_judge.specs.Bytes.{canonical_bytes}
use Rattle.oas_judge.specs.Alone.{alone}

-- the SHA-256 of the canonical file that has this unit and this cell alone
abbrev pub cell_key : Ratio → List ℕ × List Element → List ℕ
cell_key unit c = sha256 (canonical_bytes (alone unit c))

-- HEX  CELL: two lower-case hex digits for each byte of the key, two spaces, the cell's name, and the line's end
abbrev pub named_key : List ℕ → List ℕ → List ℕ
named_key key name = encode_lower key ++ ((32 ∷ 32 ∷ []) ++ (name ++ (10 ∷ [])))

abbrev pub cell_key_line : Ratio → List ℕ × List Element → List ℕ
cell_key_line unit c = named_key (cell_key unit c) c.0

-- a line for each cell
abbrev pub cell_key_lines : Meaning → List ℕ
cell_key_lines m = flat_map (cell_key_line m.unit) m.cells
