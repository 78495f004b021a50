-- Which files are accepted, and what they mean. Records are listed oldest first.
use Rattle.std.specs.Prelude.{◌≡◌, ℕ, List, reverse, None}
use Rattle.oas_record.specs.declared.heads.Head.{Head}
use Rattle.oas_record.specs.declared.records.Record.{Record}
use Rattle.oas_elements.specs.declared.limits.Limits.{Limits}
use Rattle.oas_elements.specs.Meaning.{Meaning}
use Rattle.oas_reader.specs.Stands as stands
use Rattle.oas_file.specs.Files.{FileOf}

-- no record is refused after those before it
abbrev pub Allowed : Limits → List Record → Type 0
Allowed limits rs = stands.Allowed limits (reverse rs)

-- END doesn't refuse them
abbrev pub IsWhole : Limits → List Record → Type 0
IsWhole limits rs = stands.end_refusal limits rs ≡ None

-- a file of the profile, within these limits
pub record Accepted (limits : Limits) (b : List ℕ) : Type 0 where
  pub head : Head
  pub records : List Record
  pub file : FileOf head records b
  pub allowed : Allowed limits records
  pub whole : IsWhole limits records

-- the bytes are a file with this layout as its meaning
pub record Means (b : List ℕ) (m : Meaning) : Type 0 where
  pub head : Head
  pub records : List Record
  pub file : FileOf head records b
  pub is : stands.records_mean head.unit records ≡ m

-- a file means one layout
abbrev pub OneMeaning : Type 0
OneMeaning = (b : List ℕ) (m n : Meaning) → Means b m → Means b n → m ≡ n
