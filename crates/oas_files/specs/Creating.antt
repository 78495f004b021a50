-- Outputs: standard output, or a file that is created at its first byte.
use Rattle.std.specs.Prelude.{◌≡◌, ℕ, List, [], Bool, false, Option, Some, None, is_some}
use Rattle.std.specs.Borrow.{Bor}
use Rattle.oas_files.specs.declared.creating.NewFile.{NewFile}
use Rattle.oas_files.specs.declared.creating.Output.{Output}
use Rattle.oas_files.specs.declared.creating.Output.TheVariants.{Standard, New}
use Rattle.oas_files.specs.declared.replacing.Existing.{Existing}

-- its file has been created
abbrev pub is_created : NewFile → Bool
is_created file = is_some file.file

-- standard output, which was not written to, or a new file of this name that isn't created yet, and does this to one that stands
-- there
abbrev pub IsOutput : Option (Bor (List ℕ)) → Existing → Output → Type 0
IsOutput None old (Standard standard) = standard.taken.bytes ≡ []
IsOutput None old (New file) = ⊥
IsOutput (Some path) old (Standard standard) = ⊥
IsOutput (Some path) old (New file) = (file.path.now ≡ path.now) × (file.existing ≡ old) × (is_created file ≡ false)
