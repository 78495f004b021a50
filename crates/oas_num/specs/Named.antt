-- Why bytes are no name, and no label.
use Rattle.std.specs.Prelude.{◌≡◌, ◌⊎◌, ℕ, ◌<◌, List, [], length}
use Rattle.oas_num.specs.declared.refusals.Why.{Why}
use Rattle.oas_num.specs.declared.refusals.Why.TheVariants.{EmptyName, StringByte}
use Rattle.oas_num.specs.Texts.{IsOf, IsNameByte, IsLabelByte}

-- there are none, or one is outside the class
abbrev pub RefusesName : List ℕ → Why → Type 0
RefusesName bytes why = ((why ≡ EmptyName) × (bytes ≡ [])) ⊎ ((why ≡ StringByte) × (0 < length bytes) × (IsOf IsNameByte bytes → ⊥))

-- one is outside the class
abbrev pub RefusesLabel : List ℕ → Why → Type 0
RefusesLabel bytes why = (why ≡ StringByte) × (IsOf IsLabelByte bytes → ⊥)
