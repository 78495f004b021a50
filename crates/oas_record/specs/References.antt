-- Cells and text strings, by themselves or by their numbers.
use Rattle.std.proofs.Common.{ℕ, Bool, List, [], refl}
use Rattle.oas_num.specs.Style.{Style}
use Rattle.oas_record.specs.declared.references.CellRef.{CellRef}
use Rattle.oas_record.specs.declared.references.CellRef.TheVariants as cell
use Rattle.oas_record.specs.declared.references.TextRef.{TextRef}
use Rattle.oas_record.specs.declared.references.TextRef.TheVariants as text
use Rattle.oas_num.specs.declared.refusals.Why.{Why}
use Rattle.oas_record.specs.Kinds.{Kind, spelled_in, number, name, label}
use Rattle.oas_record.specs.Trees.{image, either}

abbrev pub cell_number : ℕ → CellRef
cell_number n = cell.Number n

abbrev pub cell_name : List ℕ → CellRef
cell_name string = cell.Name string

abbrev cell_number_back : CellRef → ℕ
cell_number_back (cell.Number n) = n
cell_number_back (cell.Name _) = 0

abbrev cell_name_back : CellRef → List ℕ
cell_name_back (cell.Number _) = []
cell_name_back (cell.Name string) = string

-- a cell: its number, or its name
abbrev pub cell_kind : Bool → Kind CellRef
cell_kind numbered = either numbered (image cell_number cell_number_back number (λ u bytes p. refl)) (image cell_name cell_name_back name (λ u bytes p. refl))

abbrev pub cell_in : Style → Bool → CellRef → List ℕ → Type 0
cell_in style numbered = spelled_in style (cell_kind numbered)

abbrev pub CellTook : Bool → Why → List ℕ → Type 0
CellTook numbered = (cell_kind numbered).took

abbrev pub text_number : ℕ → TextRef
text_number n = text.Number n

abbrev pub text_label : List ℕ → TextRef
text_label string = text.Label string

abbrev text_number_back : TextRef → ℕ
text_number_back (text.Number n) = n
text_number_back (text.Label _) = 0

abbrev text_label_back : TextRef → List ℕ
text_label_back (text.Number _) = []
text_label_back (text.Label string) = string

-- a text string: its number, or itself
abbrev pub string_kind : Bool → Kind TextRef
string_kind numbered = either numbered (image text_number text_number_back number (λ u bytes p. refl)) (image text_label text_label_back label (λ u bytes p. refl))

abbrev pub text_in : Style → Bool → TextRef → List ℕ → Type 0
text_in style numbered = spelled_in style (string_kind numbered)

abbrev pub TextRefTook : Bool → Why → List ℕ → Type 0
TextRefTook numbered = (string_kind numbered).took
