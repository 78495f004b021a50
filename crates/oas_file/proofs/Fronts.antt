-- How two prefixes of one file compare, and how a file goes on after a prefix: what holds of files of any kind, for those of the
-- profile.
use Rattle.std.proofs.Common.{◌≡◌, ℕ, Bool, List, [], ◌∷◌, ◌++◌, None, refl}
use Rattle.oas_num.specs.Grammar.{IsSuch}
use Rattle.oas_num.specs.Style.{Any}
use Rattle.oas_num.proofs.ReadLemmas.{Wants}
use Rattle.oas_record.specs.declared.heads.Head.{Head}
use Rattle.oas_record.specs.declared.records.Record.{Record}
use Rattle.oas_record.specs.declared.records.Record.TheVariants.{End}
use Rattle.oas_record.specs.Heads.{magic, IsMagic, start_in, head_in}
use Rattle.oas_record.specs.Laws.HeadLaws.{PrefixFree-head}
use Rattle.oas_record.specs.Records.{record_in, IsLast}
use Rattle.oas_record.specs.Laws.RecordLaws.{PrefixFree-inner, IsApart-last}
use Rattle.oas_elements.specs.declared.limits.Limits.{Limits}
use Rattle.oas_reader.specs.Stands as stands
use Rattle.oas_reader.specs.Stands.{refused_after, refusal}
use Rattle.oas_file.specs.Files.{file_in, FileOf, PrefixOf}
use Rattle.oas_file.specs.Acceptance.{Allowed, Accepted}
use Rattle.oas_file.specs.Gathering.{inner_in}
use Rattle.oas_num.proofs.PrefixLemmas as files

-- ---- what is allowed

-- what is allowed as all records is allowed as the first of them
pub allowed_prefix : (limits : Limits) (rs ss : List Record) → Allowed limits (rs ++ ss) → Allowed limits rs
allowed_prefix limits = files.all_prefix (stands.Allowed limits) (λ before r. refused_after limits before r ≡ None) (λ r before a. a) (λ r before a none. (a, none))

-- one more record: it is allowed after the others
pub allowed_last : (limits : Limits) (rs : List Record) (r : Record) → Allowed limits (rs ++ r ∷ []) → refusal limits rs r ≡ None
allowed_last limits = files.all_last (stands.Allowed limits) (λ before r. refused_after limits before r ≡ None) (λ r before a. a) (λ r before a none. (a, none))

pub allowed_more : (limits : Limits) (rs : List Record) (r : Record) → Allowed limits rs → refusal limits rs r ≡ None → Allowed limits (rs ++ r ∷ [])
allowed_more limits = files.all_more (stands.Allowed limits) (λ before r. refused_after limits before r ≡ None) (λ r before a. a) (λ r before a none. (a, none))

-- ---- the parts of a file

abbrev pub item_in : Head → Record → List ℕ → Type 0
item_in head = inner_in head.flag_in_end

abbrev pub last_in : Head → Record → List ℕ → Type 0
last_in head = IsSuch IsLast (record_in Any head.flag_in_end)

pub parts : files.AreParts (head_in Any) item_in last_in
parts = record { head = PrefixFree-head Any; item = λ head. PrefixFree-inner Any head.flag_in_end; apart = λ head. IsApart-last Any head.flag_in_end }

-- END, after the records
pub is_last : (in_end : Bool) (last : List ℕ) → record_in Any in_end End last → IsSuch IsLast (record_in Any in_end) End last
is_last in_end last end = record { holds = refl; spelled = end }

-- ---- prefixes of a file

-- two prefixes of the same bytes
pub fronts : {head first : Head} {rs ss : List Record} {one other : List ℕ} (left right : List ℕ) → PrefixOf head rs one → PrefixOf first ss other → one ++ left ≡ other ++ right →
    files.Fronts (head_in Any) item_in head first rs ss left right
fronts left right f g e = files.fronts parts left right f.spelled g.spelled e

-- what comes after one of them, where END comes after the other
pub goes_on : {head first : Head} {rs ss : List Record} {one other : List ℕ} (last left tail : List ℕ) → PrefixOf head rs one → PrefixOf first ss other → record_in Any first.flag_in_end End last →
    one ++ left ≡ other ++ (last ++ tail) → files.GoesOn (head_in Any) item_in last_in head first rs ss End last left tail
goes_on {first = first} last left tail f g end e = files.goes_on parts End last left tail f.spelled g.spelled (is_last first.flag_in_end last end) e

-- the magic and START
pub front_none : {head : Head} (bytes : List ℕ) → head_in Any head bytes → PrefixOf head [] bytes
front_none bytes h = record { spelled = files.front_none parts bytes h }

-- one more record
pub front_more : {head : Head} {rs : List Record} {r : Record} {a b : List ℕ} → PrefixOf head rs a → inner_in head.flag_in_end r b → PrefixOf head (rs ++ r ∷ []) (a ++ b)
front_more {r = r} {b = b} f one = record { spelled = files.front_push parts r b f.spelled one }

-- and END
pub file_all : {head : Head} {rs : List Record} {bytes last : List ℕ} → PrefixOf head rs bytes → record_in Any head.flag_in_end End last → FileOf head rs (bytes ++ last)
file_all {head = head} {last = last} f end = record { spelled = files.file_all parts End last f.spelled (is_last head.flag_in_end last end) }

-- ---- a file

-- a file is a prefix, and END
pub record Ended (head : Head) (rs : List Record) (b : List ℕ) : Type 0 where
  pub before : List ℕ
  pub last : List ℕ
  pub front : PrefixOf head rs before
  pub end : record_in Any head.flag_in_end End last
  pub joined : b ≡ before ++ last

pub ended : {head : Head} {rs : List Record} {b : List ℕ} → FileOf head rs b → Ended head rs b
ended file = let s = file.spelled in record {
  before = files.file_before parts s;
  last = s.second.back;
  front = record { spelled = files.file_front parts s };
  end = s.second.second.spelled;
  joined = files.file_joined parts s;
}

-- after a prefix of a file comes another of its records, or END
pub file_expects : {head : Head} {rs : List Record} {bytes : List ℕ} → PrefixOf head rs bytes → Wants (file_in Any) bytes (record_in Any head.flag_in_end)
file_expects f = files.file_wants parts (λ head. record_in Any head.flag_in_end) (λ head r a rest s. (r, a, rest, s.spelled, refl)) (λ head r a rest s. (r, a, rest, s.spelled, refl)) f.spelled

-- the records of an accepted file's prefix are allowed
pub prefix_allowed : {limits : Limits} {head : Head} {rs : List Record} {bytes : List ℕ} (more : List ℕ) → PrefixOf head rs bytes → Accepted limits (bytes ++ more) → Allowed limits rs
prefix_allowed {limits = limits} more f a = files.prefix_all parts (Allowed limits) (allowed_prefix limits) more f.spelled a.file.spelled a.allowed

-- ---- what comes first in a file

pub magic_expected : Wants (file_in Any) [] IsMagic
magic_expected = files.magic_wanted magic (start_in Any)

pub start_expected : Wants (file_in Any) magic (start_in Any)
start_expected = files.start_wanted magic (start_in Any)
