-- Names and strings in XML. They are printable ASCII.
use Rattle.std.specs.Prelude.{ℕ, ◌==◌, List, [], ◌∷◌, flat_map, codes, if◌then◌else◌}

-- a byte of a text between two tags
abbrev pub escape : ℕ → List ℕ
escape b =
    if b == 38 then codes "&amp;"
    else if b == 60 then codes "&lt;"
    else if b == 62 then codes "&gt;"
    else b ∷ []

abbrev pub escaped : List ℕ → List ℕ
escaped bytes = flat_map escape bytes

-- a byte of a string between single quotes, as KLayout reads it
abbrev pub quote : ℕ → List ℕ
quote b =
    if b == 39 then codes "\\'"
    else if b == 92 then codes "\\\\"
    else escape b

abbrev pub quoted : List ℕ → List ℕ
quoted bytes = flat_map quote bytes
