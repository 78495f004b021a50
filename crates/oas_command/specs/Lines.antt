-- The lines that the command writes.
use Rattle.std.specs.Prelude.{ℕ, Bool, true, false, List, [], ◌∷◌, ◌++◌, codes, decimal}
use Rattle.hex.specs.Hex.{encode_lower}
use Rattle.oas_command.specs.declared.lines.End.{End}
use Rattle.oas_command.specs.declared.lines.End.TheVariants.{Newline, Zero}
use Rattle.oas_command.specs.declared.lines.Label.{Label}

-- a text, and the line's end
abbrev pub line_of : List ℕ → List ℕ
line_of text = text ++ 10 ∷ []

-- the byte that ends a line
abbrev pub end_byte : End → ℕ
end_byte Newline = 10
end_byte Zero = 0

-- four texts one after another, and what ends the line
abbrev pub line_of_pieces : List ℕ → List ℕ → List ℕ → List ℕ → ℕ → List ℕ
line_of_pieces first second third fourth end = first ++ (second ++ (third ++ (fourth ++ end ∷ [])))

-- ---- to its output

-- what `check` prints
abbrev pub check_text : Bool → List ℕ
check_text true = codes "canonical"
check_text false = codes "not canonical"

abbrev pub check_line : Bool → List ℕ
check_line canonical = line_of (check_text canonical)

-- NAME: canonical, or NAME: not canonical
abbrev pub named_check_line : Label → Bool → List ℕ
named_check_line label canonical = label.name.now ++ (codes ": " ++ (check_text canonical ++ end_byte label.end ∷ []))

-- what `same` prints
abbrev pub same_text : Bool → List ℕ
same_text true = codes "same"
same_text false = codes "different"

abbrev pub same_line : Bool → List ℕ
same_line same = line_of (same_text same)

-- what `key` prints: two lower-case hex digits for each byte, the high four bits first
abbrev pub key_line : List ℕ → List ℕ
key_line digest = line_of (encode_lower digest)

-- what comes before a key where its name was escaped
abbrev pub escape_mark : Bool → List ℕ
escape_mark true = codes "\\"
escape_mark false = []

-- HEX  NAME, as `sha256sum` has it
abbrev pub named_key_line : Label → List ℕ → List ℕ
named_key_line label digest = escape_mark label.is_escaped ++ (encode_lower digest ++ (codes "  " ++ (label.name.now ++ end_byte label.end ∷ [])))

-- what `key --check` prints for a key that is or isn't the saved one
abbrev pub kept_text : Bool → List ℕ
kept_text true = codes "OK"
kept_text false = codes "changed"

-- NAME: OK, or NAME: changed
abbrev pub kept_line : Label → Bool → List ℕ
kept_line label kept = label.name.now ++ (codes ": " ++ (kept_text kept ++ end_byte label.end ∷ []))

-- what is written for it: a quiet run writes nothing for a key that is the saved one
abbrev pub saved_key_line : Bool → Label → Bool → List ℕ
saved_key_line true label true = []
saved_key_line true label false = kept_line label false
saved_key_line false label kept = kept_line label kept

-- ---- to its error output

-- NAME: refused N at OFFSET, and the line's end
abbrev pub refusal_line : List ℕ → ℕ → ℕ → List ℕ
refusal_line name number at = name ++ (codes ": refused " ++ (decimal number ++ (codes " at " ++ (decimal at ++ 10 ∷ []))))

-- NAME: not profile 1 canonical, and the line's end
abbrev pub not_profile_1_line : List ℕ → List ℕ
not_profile_1_line name = name ++ codes ": not profile 1 canonical\n"
