-- Inputs by name.
use Rattle.std.specs.Prelude.{ℕ, List, Bool, true, false, Option}
use Rattle.oas_files.specs.declared.opening.Opened.{Opened}
use Rattle.oas_files.specs.declared.opening.Opened.TheVariants.{Standard, Named}

-- it is a file, and not standard input
abbrev pub is_named : {S F : Type 0} → Opened S F → Bool
is_named (Standard input) = false
is_named (Named file) = true

-- the bytes that are still to be read, where they are known: those of what is below
abbrev pub remaining_of : {S F : Type 0} → (S → Option (List ℕ)) → (F → Option (List ℕ)) → Opened S F → Option (List ℕ)
remaining_of standard named (Standard input) = standard input
remaining_of standard named (Named file) = named file
