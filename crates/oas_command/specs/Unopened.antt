-- How an input is named, and the message for one that can't be opened.
use Rattle.std.specs.Prelude.{ℕ, List, ◌++◌, Option, Some, None, codes}
use Rattle.std.specs.Borrow.{Bor}

-- how messages name an input
abbrev pub input_name : Option (Bor (List ℕ)) → List ℕ
input_name None = codes "standard input"
input_name (Some path) = path.now

-- NAME: cannot be opened, and the line's end
abbrev pub unopened_line : List ℕ → List ℕ
unopened_line name = name ++ codes ": cannot be opened\n"
