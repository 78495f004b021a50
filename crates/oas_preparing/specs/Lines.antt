-- The lines that the command writes to its error output.
use Rattle.std.specs.Prelude.{ℕ, Bool, List, [], ◌∷◌, ◌++◌, codes, decimal, map, filter, nat_lt}
use Rattle.oas_prepare.specs.Extra.{Extra}
use Rattle.oas_prepare.specs.Report.{Report}
use Rattle.oas_prepare.specs.Place.{Place}
use Rattle.oas_prepare.specs.Place.TheVariants.{File, Block}
use Rattle.oas_prepare.specs.Rejection.{Rejection}
use Rattle.oas_prepare.specs.StandardReasons.{wide_number_of}
use Rattle.oas_preparing.specs.Kinds.{kinds, left_out, name_for}

-- ---- what was left out

-- this many with this name
abbrev pub phrase : ℕ → List ℕ → List ℕ
phrase number name = decimal number ++ (codes " " ++ name)

-- how many of a kind were left out, in words
abbrev pub phrase_of : Report → Extra → List ℕ
phrase_of report kind = phrase (left_out report kind) (name_for (left_out report kind) kind)

-- some of a kind were left out
abbrev pub is_left_out : Report → Extra → Bool
is_left_out report kind = nat_lt 0 (left_out report kind)

-- the kinds of which some were left out
abbrev pub phrases : Report → List Extra → List (List ℕ)
phrases report kinds = map (phrase_of report) (filter (is_left_out report) kinds)

-- texts with a comma between two
abbrev pub listed : List (List ℕ) → List ℕ
listed [] = []
listed (one ∷ []) = one
listed (one ∷ (next ∷ more)) = one ++ (codes ", " ++ listed (next ∷ more))

-- a line of these texts after a name, and none without a text
abbrev pub line_of : List ℕ → List (List ℕ) → List ℕ
line_of name [] = []
line_of name (one ∷ more) = name ++ (codes ": left out " ++ (listed (one ∷ more) ++ 10 ∷ []))

-- NAME: left out 12 properties, 3 layer names, and the line's end; nothing where nothing was left out
abbrev pub report_line : List ℕ → Report → List ℕ
report_line name report = line_of name (phrases report kinds)

-- ---- a rejection

-- an offset in the file, or that of a block, `+` and one in what it inflates to; and the line's end
abbrev pub place_text : Place → List ℕ
place_text (File at) = decimal at ++ 10 ∷ []
place_text (Block block within) = decimal block ++ (codes "+" ++ (decimal within ++ 10 ∷ []))

-- NAME: refused N at OFFSET, and the line's end
abbrev pub rejection_line : List ℕ → Rejection → List ℕ
rejection_line name rejection = name ++ (codes ": refused " ++ (decimal (wide_number_of rejection.why) ++ (codes " at " ++ place_text rejection.place)))
