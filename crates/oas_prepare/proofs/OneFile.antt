-- A file has one list of records, and one END, after which it doesn't go on.
use Rattle.std.proofs.Common.{◌≡◌, ℕ, List, [], ◌++◌, sym, ap, ◌∙◌}
use Rattle.oas_num.specs.Laws.GrammarLaws.{PrefixFree-pair}
use Rattle.oas_num.specs.Grammar.{PrefixFree, IsPair, IsEach}
use Rattle.oas_num.specs.Laws.CombinatorLaws.{PrefixFree-until}
use Rattle.oas_num.proofs.PrefixLemmas.{whole_one}
use Rattle.oas_narrow.specs.WideEnd.{WideEnd}
use Rattle.oas_narrow.specs.WideStart.{WideStart}
use Rattle.oas_narrow.specs.WideRecord.{WideRecord}
use Rattle.oas_narrow.specs.WideFiles.{WideFileOf, WideParts, wide_head, wide_file, item_in, end_in, records_of}
use Rattle.oas_prepare.proofs.Items.{PrefixFree-item, IsApart-item}
use Rattle.oas_prepare.proofs.WideLaws.{PrefixFree-head, PrefixFree-end}

pub PrefixFree-file : PrefixFree wide_file
PrefixFree-file =
    PrefixFree-pair wide_head (λ head. IsPair (IsEach (item_in head.flag_in_end)) (λ _. end_in head.flag_in_end)) PrefixFree-head
    (λ head. PrefixFree-until (item_in head.flag_in_end) (end_in head.flag_in_end) (PrefixFree-item head.flag_in_end) (PrefixFree-end head.flag_in_end) (IsApart-item head.flag_in_end))

-- one file has the same records
pub same_all : {head first : WideStart} {ws vs : List WideRecord} {end other : WideEnd} {b c : List ℕ} (f : WideFileOf head ws end b) (g : WideFileOf first vs other c) → f.items ≡ g.items → ws ≡ vs
same_all f g e = sym f.all ∙ ap records_of e ∙ g.all

-- a file that goes on as a file is that file
pub record IsOne (ws vs : List WideRecord) (end other : WideEnd) (more : List ℕ) : Type 0 where
  pub records : ws ≡ vs
  pub ends : end ≡ other
  pub none : more ≡ []

pub one_file : {head first : WideStart} {ws vs : List WideRecord} {end other : WideEnd} {b c : List ℕ} (more : List ℕ) → WideFileOf head ws end b → WideFileOf first vs other c → b ++ more ≡ c → IsOne ws vs end other more
one_file {head = head} {first = first} {end = end} {other = other} {b = b} {c = c} more f g e =
    let one = whole_one PrefixFree-file (head, (f.items, end)) (first, (g.items, other)) b c more f.spelled g.spelled e in
    record { records = same_all f g (ap (λ (p : WideParts). p.1.0) one.0); ends = ap (λ (p : WideParts). p.1.1) one.0; none = one.1 }
