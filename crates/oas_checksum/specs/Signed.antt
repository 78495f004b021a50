-- What a signature covers (SEMI P39, END record, validation-scheme).
use Rattle.std.specs.Prelude.{ℕ, ◌-◌, List, length, take}

-- all bytes of a file before the signature, which is the last four bytes
abbrev pub signed : List ℕ → List ℕ
signed bytes = take (length bytes - 4) bytes
