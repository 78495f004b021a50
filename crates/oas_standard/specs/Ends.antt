-- How the end of a file is spelled, after its id, with any validation (SEMI P39, END record).
use Rattle.std.proofs.Common.{ℕ, ◌<◌, Bool, not, List, Option, Some, None, arith}
use Rattle.std.specs.Prelude.{◌==◌, if◌then◌else◌}
use Rattle.oas_num.specs.declared.refusals.Why.{Why}
use Rattle.oas_num.specs.declared.refusals.Why.TheVariants.{ValidationScheme}
use Rattle.oas_num.specs.declared.padding.Padding.{Padding}
use Rattle.oas_num.specs.Pieces.{Unless}
use Rattle.oas_record.specs.FoundParts.{settled_below}
use Rattle.oas_record.specs.Kinds.{Kind}
use Rattle.oas_record.specs.Trees.{IsTest, pair, there, such, image_any}
use Rattle.oas_standard.specs.declared.ends.WideEnd.{WideEnd}
use Rattle.oas_standard.specs.declared.ends.Validation.{Validation}
use Rattle.oas_standard.specs.declared.ends.Validation.TheVariants.{Unvalidated, Crc32, Checksum32}
use Rattle.oas_standard.specs.Little.{four}
use Rattle.oas_standard.specs.Long.{IsLong, long_number, long_padding, long_test}
use Rattle.oas_standard.specs.Offsets.{long_offsets_part}

-- the schemes that there are: none, CRC32, CHECKSUM32
abbrev pub IsScheme : ℕ → Type 0
IsScheme scheme = scheme < 3

pub scheme_test : IsTest IsLong IsScheme (Unless IsScheme ValidationScheme)
scheme_test = long_test IsScheme ValidationScheme (λ scheme. settled_below scheme 3) (omega arith) (λ e. cc)

abbrev pub scheme : Kind ℕ
scheme = such long_number IsScheme (Unless IsScheme ValidationScheme) scheme_test

-- a signature, where the scheme has one
abbrev pub signature : ℕ → Kind (Option ℕ)
signature scheme = there (not (scheme == 0)) four

abbrev pub validation_of : ℕ → Option ℕ → Validation
validation_of kind None = Unvalidated
validation_of kind (Some signature) = if kind == 1 then Crc32 signature else Checksum32 signature

abbrev pub validated : ℕ × Option ℕ → Validation
validated p = validation_of p.0 p.1

abbrev pub validation : Kind Validation
validation = image_any validated (pair scheme signature)

abbrev pub SpellsValidation : Validation → List ℕ → Type 0
SpellsValidation = validation.any

abbrev pub ValidationTook : Why → List ℕ → Type 0
ValidationTook = validation.took

abbrev pub WideEndParts : Type 0
WideEndParts = Unit {0} × (Padding × Validation)

abbrev pub wide_end_of : WideEndParts → WideEnd
wide_end_of p = record { validation = p.1.1 }

-- table-offsets where START says so, padding, and the validation, with integers of any number of bytes
abbrev pub wide_end : Bool → Kind WideEnd
wide_end in_end = image_any wide_end_of (pair (long_offsets_part in_end) (λ _. pair long_padding (λ _. validation)))

abbrev pub SpellsWideEnd : Bool → WideEnd → List ℕ → Type 0
SpellsWideEnd in_end = (wide_end in_end).any

-- where a read of what follows END's id may fail
abbrev pub WideEndTook : Bool → Why → List ℕ → Type 0
WideEndTook in_end = (wide_end in_end).took
