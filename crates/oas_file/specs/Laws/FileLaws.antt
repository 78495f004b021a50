-- The laws of files.
use Rattle.std.proofs.Common.{◌≡◌, ℕ, List, [], refl, ap, sym, ◌∙◌}
use Rattle.oas_num.specs.Grammar.{PrefixFree}
use Rattle.oas_num.specs.Laws.GrammarLaws.{PrefixFree-pair}
use Rattle.oas_num.specs.Combinators.{OneSpelling, IsWithin}
use Rattle.oas_num.specs.Laws.CombinatorLaws.{OneSpelling-pair, IsWithin-pair}
use Rattle.oas_num.specs.Style.{Style, Any, Shortest}
use Rattle.oas_record.specs.declared.heads.Head.{Head}
use Rattle.oas_record.specs.declared.records.Record.{Record}
use Rattle.oas_record.specs.declared.records.Record.TheVariants.{End}
use Rattle.oas_record.specs.Heads.{head_in}
use Rattle.oas_record.specs.Laws.HeadLaws.{PrefixFree-head, OneSpelling-head, IsWithin-head}
use Rattle.oas_record.specs.Records.{records_in}
use Rattle.oas_record.specs.Laws.RecordLaws.{PrefixFree-records, OneSpelling-records, IsWithin-records}
use Rattle.oas_reader.specs.Stands.{records_mean}
use Rattle.oas_file.specs.Files.{Parts, file_in, FileIn, FileOf, OneReading}
use Rattle.oas_file.specs.Acceptance.{OneMeaning}

-- none is a prefix of another, in any style
pub PrefixFree-file : (style : Style) → PrefixFree (file_in style)
PrefixFree-file style = PrefixFree-pair (head_in style) (λ head. records_in style head.flag_in_end) (PrefixFree-head style) (λ head. PrefixFree-records style head.flag_in_end)

-- in the shortest style each has one spelling
pub OneSpelling-file : OneSpelling (file_in Shortest)
OneSpelling-file = OneSpelling-pair (head_in Shortest) (λ head. records_in Shortest head.flag_in_end) OneSpelling-head (λ head. OneSpelling-records head.flag_in_end)

-- a spelling in the shortest style is one in any style
pub IsWithin-file : IsWithin (file_in Shortest) (file_in Any)
IsWithin-file = IsWithin-pair (head_in Shortest) (head_in Any) (λ head. records_in Shortest head.flag_in_end) (λ head. records_in Any head.flag_in_end) IsWithin-head
    (λ head. IsWithin-records head.flag_in_end)

pub file_of : (style : Style) (head : Head) (rs : List Record) (b : List ℕ) → FileIn style head rs b → FileOf head rs b
file_of Any head rs b p = p
file_of Shortest head rs b p = record { spelled = IsWithin-file.within (head, (rs, End)) b p.spelled }

pub one_reading : OneReading
one_reading style other head first rs ss b p q =
    let both = (PrefixFree-file Any).one (head, (rs, End)) (first, (ss, End)) b b [] [] (file_of style head rs b p).spelled (file_of other first ss b q).spelled refl in
    (ap (λ (s : Parts). s.0) both.1, ap (λ (s : Parts). s.1.0) both.1)

-- in the shortest style, the same parts are the same bytes
pub one_spelling : (head : Head) (rs : List Record) (b c : List ℕ) → FileIn Shortest head rs b → FileIn Shortest head rs c → b ≡ c
one_spelling head rs b c p q = OneSpelling-file.same (head, (rs, End)) b c p.spelled q.spelled

pub means_one : OneMeaning
means_one b m n p q =
    let both = one_reading Any Any p.head q.head p.records q.records b p.file q.file in
    let same : records_mean p.head.unit p.records ≡ records_mean q.head.unit q.records = ap (λ (both : Head × List Record). records_mean both.0.unit both.1) (λ i. (both.0 i, both.1 i)) in
    sym p.is ∙ same ∙ q.is
