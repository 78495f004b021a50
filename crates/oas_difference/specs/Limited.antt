-- The first lines of a text.
use Rattle.std.specs.Prelude.{ℕ, zero, suc, ◌==◌, Bool, true, false, List, [], ◌∷◌, ◌++◌, codes, Option, None, Some, if◌then◌else◌}
use Rattle.oas_diff_options.specs.declared.format.Syntax.{Syntax}
use Rattle.oas_diff_options.specs.declared.format.Syntax.TheVariants.{Lines, Json}

-- the first n lines
abbrev pub first_lines : ℕ → List ℕ → List ℕ
first_lines zero text = []
first_lines (suc n) [] = []
first_lines (suc n) (b ∷ bs) = b ∷ first_lines (if b == 10 then n else suc n) bs

-- whether something follows them
abbrev pub is_longer : ℕ → List ℕ → Bool
is_longer zero [] = false
is_longer zero (b ∷ bs) = true
is_longer (suc n) [] = false
is_longer (suc n) (b ∷ bs) = is_longer (if b == 10 then n else suc n) bs

-- the line that says so
abbrev pub more_line : Syntax → Bool → List ℕ
more_line syntax false = []
more_line Lines true = codes "...\n"
more_line Json true = codes "{\"kind\":\"more\"}\n"

-- The text; or this many of its first lines, followed by a line that says so where it has more.
abbrev pub limited : Syntax → Option ℕ → List ℕ → List ℕ
limited syntax None text = text
limited syntax (Some n) text = first_lines n text ++ more_line syntax (is_longer n text)
