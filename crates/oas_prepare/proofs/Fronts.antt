-- How two prefixes of one file compare, and how a file goes on after a prefix: what holds of files of any kind, for those of the
-- standard.
use Rattle.std.proofs.Common.{◌≡◌, ℕ, List, [], ◌∷◌, ◌++◌, None, refl, sym, ap, subst, ◌∙◌, append_assoc}
use Rattle.std.proofs.lemmas.List.{append-nil}
use Rattle.oas_num.proofs.PrefixLemmas as files
use Rattle.oas_num.proofs.ReadLemmas.{Wants}
use Rattle.oas_record.specs.Heads.{magic, IsMagic}
use Rattle.oas_elements.specs.declared.limits.Limits.{Limits}
use Rattle.oas_narrow.specs.WideEnd.{WideEnd}
use Rattle.oas_narrow.specs.WideStart.{WideStart}
use Rattle.oas_narrow.specs.WideRecord.{WideRecord}
use Rattle.oas_narrow.specs.WideRecord.TheVariants.{End}
use Rattle.oas_narrow.specs.Heads.{SpellsWideStart}
use Rattle.oas_narrow.specs.WideRecords.{wide_record_in}
use Rattle.oas_narrow.specs.declared.dropping.Dropping.{Dropping}
use Rattle.oas_narrow.specs.Narrowing.{ArePrepared, obstacle_after}
use Rattle.oas_narrow.specs.Preparable.{AllPrepared, Formed}
use Rattle.oas_narrow.specs.WideFiles.{WideFileOf, WidePrefixOf, wide_file, wide_head, item_in, end_in, records_of}
use Rattle.oas_prepare.specs.Taking.{obstacle_next}
use Rattle.oas_prepare.proofs.WideLaws.{PrefixFree-head}
use Rattle.oas_prepare.proofs.Items.{PrefixFree-item, IsApart-item, item_begins, records-append, records-push}

-- ---- what is allowed

-- what is allowed as all records is allowed as the first of them
pub allowed_prefix : (limits : Limits) (dropping : Dropping) (rs ss : List WideRecord) → AllPrepared limits dropping (rs ++ ss) → AllPrepared limits dropping rs
allowed_prefix limits dropping = files.all_prefix (ArePrepared limits dropping) (λ before w. obstacle_after limits dropping before w ≡ None) (λ w before a. a) (λ w before a none. (a, none))

-- one more record: it is allowed after the others
pub allowed_last : (limits : Limits) (dropping : Dropping) (rs : List WideRecord) (r : WideRecord) → AllPrepared limits dropping (rs ++ r ∷ []) → obstacle_next limits dropping rs r ≡ None
allowed_last limits dropping = files.all_last (ArePrepared limits dropping) (λ before w. obstacle_after limits dropping before w ≡ None) (λ w before a. a) (λ w before a none. (a, none))

pub allowed_more : (limits : Limits) (dropping : Dropping) (rs : List WideRecord) (r : WideRecord) → AllPrepared limits dropping rs → obstacle_next limits dropping rs r ≡ None → AllPrepared limits dropping (rs ++ r ∷ [])
allowed_more limits dropping = files.all_more (ArePrepared limits dropping) (λ before w. obstacle_after limits dropping before w ≡ None) (λ w before a. a) (λ w before a none. (a, none))

-- ---- the parts of a file

abbrev pub item_of : WideStart → List WideRecord → List ℕ → Type 0
item_of head = item_in head.flag_in_end

abbrev pub end_of : WideStart → WideEnd → List ℕ → Type 0
end_of head = end_in head.flag_in_end

pub parts : files.AreParts wide_head item_of end_of
parts = record { head = PrefixFree-head; item = λ head. PrefixFree-item head.flag_in_end; apart = λ head. IsApart-item head.flag_in_end }

-- ---- prefixes of a file

-- the magic and START
pub front_none : {head : WideStart} (bytes : List ℕ) → wide_head head bytes → WidePrefixOf head [] bytes
front_none bytes h = record { items = []; all = refl; spelled = files.front_none parts bytes h }

-- one more item
pub front_more : {head : WideStart} {rs : List WideRecord} (ws : List WideRecord) {a b : List ℕ} → WidePrefixOf head rs a → item_in head.flag_in_end ws b → WidePrefixOf head (rs ++ ws) (a ++ b)
front_more ws {b = b} f one = record {
  items = f.items ++ ws ∷ [];
  all = records-push f.items ws ∙ ap (λ (rs : List WideRecord). rs ++ ws) f.all;
  spelled = files.front_push parts ws b f.spelled one;
}

-- and END
pub file_all : {head : WideStart} {ws : List WideRecord} {end : WideEnd} {bytes last : List ℕ} → WidePrefixOf head ws bytes → end_in head.flag_in_end end last → WideFileOf head ws end (bytes ++ last)
file_all {end = end} {last = last} f ends = record { items = f.items; all = f.all; spelled = files.file_all parts end last f.spelled ends }

-- ---- a file

-- what comes after a prefix of it
pub goes_on : {head first : WideStart} {rs ss : List WideRecord} {end : WideEnd} {one whole : List ℕ} (left tail : List ℕ) (f : WidePrefixOf head rs one) (g : WideFileOf first ss end whole) → whole ++ tail ≡ one ++ left →
    files.GoesOn wide_head item_of end_of head first f.items g.items end g.spelled.second.back left tail
goes_on left tail f g e = files.file_goes_on parts left tail f.spelled g.spelled e

-- the records of a prefix that goes on
pub records_then : {head first : WideStart} {rs ss : List WideRecord} {end : WideEnd} {one whole : List ℕ} (f : WidePrefixOf head rs one) (g : WideFileOf first ss end whole) (ws : List WideRecord) (tail : List (List WideRecord)) →
    g.items ≡ (f.items ++ ws ∷ []) ++ tail → ss ≡ rs ++ (ws ++ records_of tail)
records_then f g ws tail is =
    sym g.all ∙ ap records_of (is ∙ append_assoc f.items (ws ∷ []) tail) ∙ records-append f.items (ws ∷ tail) ∙ ap (λ (all : List WideRecord). all ++ (ws ++ records_of tail)) f.all

-- after a prefix comes another of its records, the head of a block, or END
pub file_expects : {head : WideStart} {rs : List WideRecord} {bytes : List ℕ} → WidePrefixOf head rs bytes → Wants wide_file bytes (wide_record_in head.flag_in_end)
file_expects f =
    files.file_wants parts (λ head. wide_record_in head.flag_in_end) (λ head ws a rest s. let i = item_begins head.flag_in_end ws a rest s in (i.value, i.front, i.more, i.spelled, sym i.joined))
    (λ head end a rest s. (End end, a, rest, s, refl)) f.spelled

-- the records of an accepted file's prefix are allowed
pub prefix_allowed : {limits : Limits} {dropping : Dropping} {head : WideStart} {rs : List WideRecord} {bytes : List ℕ} (more : List ℕ) → WidePrefixOf head rs bytes → Formed limits dropping (bytes ++ more) → AllPrepared limits dropping rs
prefix_allowed {limits = limits} {dropping = dropping} more f a =
    subst (AllPrepared limits dropping) f.all
    (files.prefix_all parts (λ (items : List (List WideRecord)). AllPrepared limits dropping (records_of items)) first more f.spelled a.file.spelled (subst (AllPrepared limits dropping) (sym a.file.all) a.prepared)) where
      first : (items tail : List (List WideRecord)) → AllPrepared limits dropping (records_of (items ++ tail)) → AllPrepared limits dropping (records_of items)
      first items tail all = allowed_prefix limits dropping (records_of items) (records_of tail) (subst (AllPrepared limits dropping) (records-append items tail) all)

-- ---- what comes first in a file

pub magic_expected : Wants wide_file [] IsMagic
magic_expected = files.magic_wanted magic SpellsWideStart

pub start_expected : Wants wide_file magic SpellsWideStart
start_expected = files.start_wanted magic SpellsWideStart

pub file_start : {head : WideStart} {ws : List WideRecord} {end : WideEnd} {b : List ℕ} → WideFileOf head ws end b → files.Opens magic SpellsWideStart head b
file_start {head = head} {b = b} file = subst (files.Opens magic SpellsWideStart head) (append-nil b) (files.file_opens magic SpellsWideStart [] file.spelled)
