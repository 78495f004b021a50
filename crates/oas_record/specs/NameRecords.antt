-- How name records are spelled, after their ids (SEMI P39, CELLNAME and TEXTSTRING records).
use Rattle.std.specs.Prelude.{ℕ, Bool, List, Option}
use Rattle.oas_num.specs.Style.{Style}
use Rattle.oas_num.specs.declared.refusals.Why.{Why}
use Rattle.oas_record.specs.Kinds.{Kind, spelled_in, number, name, label}
use Rattle.oas_record.specs.Trees.{pair, there}

-- a cell's name, and its number where there is one
abbrev pub cell_name_kind : Bool → Kind (List ℕ × Option ℕ)
cell_name_kind numbered = pair name (λ _. there numbered number)

abbrev pub cell_name_in : Style → Bool → List ℕ × Option ℕ → List ℕ → Type 0
cell_name_in style numbered = spelled_in style (cell_name_kind numbered)

abbrev pub CellNameTook : Bool → Why → List ℕ → Type 0
CellNameTook numbered = (cell_name_kind numbered).took

-- a text string, and its number where there is one
abbrev pub text_string_kind : Bool → Kind (List ℕ × Option ℕ)
text_string_kind numbered = pair label (λ _. there numbered number)

abbrev pub text_string_in : Style → Bool → List ℕ × Option ℕ → List ℕ → Type 0
text_string_in style numbered = spelled_in style (text_string_kind numbered)

abbrev pub TextStringTook : Bool → Why → List ℕ → Type 0
TextStringTook numbered = (text_string_kind numbered).took
