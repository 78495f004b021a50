-- The loose entries, from their bytes.
use Rattle.std.specs.Prelude.{◌≤◌, ℕ, List, [], ◌∷◌, map, length, drop}
use Rattle.oas_run_store.specs.declared.loose.Loose.{Loose}
use Rattle.oas_runs.specs.Entries.{Entry, entries, IsBlock}

-- the first entry; where there is none, no key is meant
abbrev pub first_of : List Entry → Entry
first_of [] = ([], 0)
first_of (p ∷ ps) = p

-- the entry that begins there
abbrev pub entry_of : List ℕ → Loose → Entry
entry_of bytes a = first_of (entries (drop a.at bytes))

-- those of many
abbrev pub entries_of : List ℕ → List Loose → List Entry
entries_of bytes all = map (entry_of bytes) all

-- entries begin there
abbrev pub Begins : List ℕ → Loose → Type 0
Begins bytes a = (a.at ≤ length bytes) × IsBlock (drop a.at bytes)
