-- Which files are prepared, and what they mean. Records are listed oldest first.
use Rattle.std.specs.Prelude.{◌≡◌, ℕ, ◌<◌, ◌*◌, ◌^◌, List, reverse, None}
use Rattle.oas_checksum.specs.Crc.{crc32}
use Rattle.oas_checksum.specs.Signed.{signed}
use Rattle.oas_checksum.specs.ByteSums.{checksum32}
use Rattle.oas_num.specs.Ratio.{Ratio, Reduces}
use Rattle.oas_block.specs.Validation.{Validation}
use Rattle.oas_block.specs.Validation.TheVariants.{Unvalidated, Crc32, Checksum32}
use Rattle.oas_block.specs.WideEnd.{WideEnd}
use Rattle.oas_block.specs.WideStart.{WideStart}
use Rattle.oas_block.specs.WideReal.{WideReal}
use Rattle.oas_elements.specs.declared.limits.Limits.{Limits}
use Rattle.oas_elements.specs.Meaning.{Meaning}
use Rattle.oas_reader.specs.Stands.{records_mean, end_refusal}
use Rattle.oas_block.specs.WideRecord.{WideRecord}
use Rattle.oas_narrow.specs.declared.dropping.Dropping.{Dropping}
use Rattle.oas_narrow.specs.Narrowing.{narrowed, ArePrepared}
use Rattle.oas_narrow.specs.WideFiles.{WideFileOf}

-- ---- the unit

-- the fraction that a real is, in lowest terms, both parts below 2^64
pub record IsUnitOf (real : WideReal) (unit : Ratio) : Type 0 where
  pub reduces : Reduces (real.num * 2 ^ real.doubled) (real.den * 2 ^ real.halved) unit
  pub num_fits : unit.num < 2 ^ 64
  pub den_fits : unit.den < 2 ^ 64

-- ---- the signature

-- the bytes are a file whose END says correctly that it is complete (SEMI P39, END record, validation-scheme)
abbrev pub IsValid : Validation → List ℕ → Type 0
IsValid Unvalidated bytes = Unit {0}
IsValid (Crc32 signature) bytes = signature ≡ crc32 (signed bytes)
IsValid (Checksum32 signature) bytes = signature ≡ checksum32 (signed bytes)

-- ---- files

-- no record stops after those before it
abbrev pub AllPrepared : Limits → Dropping → List WideRecord → Type 0
AllPrepared limits dropping ws = ArePrepared limits dropping (reverse ws)

-- a file of the standard whose records are prepared, within these limits and with what is named to be left out
pub record Formed (limits : Limits) (dropping : Dropping) (b : List ℕ) : Type 0 where
  pub start : WideStart
  pub records : List WideRecord
  pub end : WideEnd
  pub unit : Ratio
  pub file : WideFileOf start records end b
  pub is_unit : IsUnitOf start.unit unit
  pub prepared : AllPrepared limits dropping records
  pub whole : end_refusal limits (narrowed records) ≡ None

-- and that is complete
pub record Preparable (limits : Limits) (dropping : Dropping) (b : List ℕ) : Type 0 where
  pub formed : Formed limits dropping b
  pub valid : IsValid formed.end.validation b

-- the meaning of a file of the standard: that of the records of the profile that its records are translated to
pub record WideMeans (b : List ℕ) (m : Meaning) : Type 0 where
  pub start : WideStart
  pub records : List WideRecord
  pub end : WideEnd
  pub unit : Ratio
  pub file : WideFileOf start records end b
  pub is_unit : IsUnitOf start.unit unit
  pub is : records_mean unit (narrowed records) ≡ m
