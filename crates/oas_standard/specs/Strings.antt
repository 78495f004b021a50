-- How records are spelled, after their ids, of a string and perhaps a number (SEMI P39, PROPNAME, PROPSTRING, XNAME and
-- XELEMENT records).
use Rattle.std.specs.Prelude.{ℕ, Bool, List, Option}
use Rattle.oas_num.specs.declared.refusals.Why.{Why}
use Rattle.oas_num.specs.declared.padding.Padding.{Padding}
use Rattle.oas_record.specs.Kinds.{Kind, number, padding}
use Rattle.oas_record.specs.Trees.{pair, there}
use Rattle.oas_standard.specs.Long.{long_number}

-- a string, and its number where there is one
abbrev pub string_kind : Bool → Kind (Padding × Option ℕ)
string_kind numbered = pair padding (λ _. there numbered number)

abbrev pub SpellsString : Bool → Padding × Option ℕ → List ℕ → Type 0
SpellsString numbered = (string_kind numbered).any

abbrev pub StringTook : Bool → Why → List ℕ → Type 0
StringTook numbered = (string_kind numbered).took

-- an attribute in any number of bytes, and the same
abbrev pub attributed : Bool → Kind (ℕ × (Padding × Option ℕ))
attributed numbered = pair long_number (λ _. string_kind numbered)

abbrev pub SpellsAttributed : Bool → ℕ × (Padding × Option ℕ) → List ℕ → Type 0
SpellsAttributed numbered = (attributed numbered).any

-- where a read may fail
abbrev pub AttributedTook : Bool → Why → List ℕ → Type 0
AttributedTook numbered = (attributed numbered).took
