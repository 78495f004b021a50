-- What the writers at the bottom of an output took.
use Rattle.std.specs.Prelude.{ℕ, List, [], Option, Some, None}
use Rattle.oas_files.specs.declared.creating.Destination.{Destination}
use Rattle.oas_files.specs.declared.creating.Destination.TheVariants.{InPlace, Beside}
use Rattle.oas_files.specs.declared.creating.NewFile.{NewFile}
use Rattle.oas_files.specs.declared.creating.Output.{Output}
use Rattle.oas_files.specs.declared.creating.Output.TheVariants.{Standard, New}

-- of what they were handed, under a name or beside its place
abbrev pub taken_there : Destination → List ℕ
taken_there (InPlace file) = file.taken.bytes
taken_there (Beside replacement) = replacement.file.taken.bytes

-- none where there is no file yet
abbrev pub taken_in : Option Destination → List ℕ
taken_in None = []
taken_in (Some file) = taken_there file

abbrev pub taken_of : NewFile → List ℕ
taken_of new = taken_in new.file

abbrev pub taken_by : Output → List ℕ
taken_by (Standard standard) = standard.taken.bytes
taken_by (New file) = taken_of file
