-- What a file is: its head, its records and END, spelled in a style (SEMI P39, OASIS file).
use Rattle.std.specs.Prelude.{◌≡◌, ℕ, List}
use Rattle.oas_num.specs.Grammar.{IsPair, IsSuch, IsEach}
use Rattle.oas_num.specs.Style.{Style, Any}
use Rattle.oas_record.specs.declared.heads.Head.{Head}
use Rattle.oas_record.specs.declared.records.Record.{Record}
use Rattle.oas_record.specs.declared.records.Record.TheVariants.{End}
use Rattle.oas_record.specs.Heads.{head_in}
use Rattle.oas_record.specs.Records.{record_in, records_in, IsInner}

abbrev pub Parts : Type 0
Parts = Head × (List Record × Record)

-- the magic and START, then records and END; START says where the table-offsets are
abbrev pub file_in : Style → Parts → List ℕ → Type 0
file_in style = IsPair (head_in style) (λ head. records_in style head.flag_in_end)

-- the bytes are a file with this START and these records, spelled in that style
pub record FileIn (style : Style) (head : Head) (rs : List Record) (bytes : List ℕ) : Type 0 where
  pub spelled : file_in style (head, (rs, End)) bytes

abbrev pub FileOf : Head → List Record → List ℕ → Type 0
FileOf head rs bytes = FileIn Any head rs bytes

-- the bytes are a prefix of a file: the magic, START and these records
pub record PrefixOf (head : Head) (rs : List Record) (bytes : List ℕ) : Type 0 where
  pub spelled : IsPair (head_in Any) (λ head. IsEach (IsSuch IsInner (record_in Any head.flag_in_end))) (head, rs) bytes

-- one byte list has at most one START and one list of records
abbrev pub OneReading : Type 0
OneReading = (style other : Style) (head first : Head) (rs ss : List Record) (b : List ℕ) → FileIn style head rs b → FileIn other first ss b → (head ≡ first) × (rs ≡ ss)
