-- Names that ascend.
use Rattle.std.proofs.Common.{◌≡◌, ℕ, List, [], ◌∷◌, ◌++◌, false, ◌||◌, Option, None, Some, refl, sym, ◌∙◌, ap, subst}
use Rattle.std.specs.List.{list_any}
use Rattle.std.specs.Ordering.{nat_cmp, is_eq}
use Rattle.std.specs.declared.cmp.Ordering.TheVariants.{Less}
use Rattle.std.specs.Cmp.Lexicographic.{slice_cmp, nat_list_cmp_total, nat_list_eq_equiv, texts_ties}
use Rattle.std.proofs.lemmas.List.Folds.{list_any-append}
use Rattle.oas_record.specs.declared.references.CellRef.{CellRef}
use Rattle.oas_reader.specs.Names.{same_string}
use Rattle.oas_reader.specs.References.{cell_by}
use Rattle.oas_reader.specs.Meaning.{names_meant, has_twice}
use Rattle.oas_reader.proofs.Twice.{once_at, names_none, names_some}

-- a name is above the one before it, if there is one
abbrev pub IsOver : Option (List ℕ) → List ℕ → Type 0
IsOver None m = Unit {0}
IsOver (Some last) m = slice_cmp nat_cmp last m ≡ Less

pub over_by : (before : Option (List ℕ)) (n : List ℕ) → ((last : List ℕ) → before ≡ Some last → slice_cmp nat_cmp last n ≡ Less) → IsOver before n
over_by None n above = tt
over_by (Some last) n above = above last refl

-- no name that is above the last is among them, and none of them is there twice
pub record Ascending (last : Option (List ℕ)) (ns : List (List ℕ)) : Type 0 where
  pub above : (m : List ℕ) → IsOver last m → list_any (same_string m) ns ≡ false
  pub once : has_twice ns ≡ false

pub ascending_nil : Ascending None []
ascending_nil = record { above = λ m over. refl; once = refl }

-- one more name, above the last
ascending_more : (last : Option (List ℕ)) (ns : List (List ℕ)) (n : List ℕ) → Ascending last ns → IsOver last n → Ascending (Some n) (ns ++ n ∷ [])
ascending_more last ns n a over = record {
  above = λ m less. list_any-append (same_string m) ns (n ∷ []) ∙ (λ i. a.above m (on last m over less) i || (apart m less i || false));
  once = once_at ns n (a.above n over) a.once;
} where
  on : (last : Option (List ℕ)) (m : List ℕ) → IsOver last n → slice_cmp nat_cmp n m ≡ Less → IsOver last m
  on None m over less = tt
  on (Some before) m over less = nat_list_cmp_total.trans before n m over less

  apart : (m : List ℕ) → slice_cmp nat_cmp n m ≡ Less → same_string m n ≡ false
  apart m less = nat_list_eq_equiv.symm m n ∙ texts_ties n m ∙ ap is_eq less

-- one more cell without a name
pub ascending_none : (names : List (ℕ × List ℕ)) (last : Option (List ℕ)) (cs : List CellRef) (c : CellRef) → cell_by names c ≡ None → Ascending last (names_meant names cs)
    → Ascending last (names_meant names (cs ++ c ∷ []))
ascending_none names last cs c e a = subst (Ascending last) (sym (names_none names cs c e)) a

-- one more cell with a name above the last
pub ascending_some : (names : List (ℕ × List ℕ)) (last : Option (List ℕ)) (cs : List CellRef) (c : CellRef) (n : List ℕ) → cell_by names c ≡ Some n → IsOver last n
    → Ascending last (names_meant names cs) → Ascending (Some n) (names_meant names (cs ++ c ∷ []))
ascending_some names last cs c n e over a = subst (Ascending (Some n)) (sym (names_some names cs [] c n e)) (ascending_more last (names_meant names cs) n a over)
