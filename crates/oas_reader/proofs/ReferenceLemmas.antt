-- What references mean by tables and by records, and where a name is missing.
use Rattle.std.proofs.Common.{◌≡◌, ℕ, List, [], ◌∷◌, ◌++◌, refl, ◌∙◌, ap, ◌⊎◌, inl, inr, Bool, true, false, ◌||◌}
use Rattle.std.specs.Prelude.{Option, None, Some, is_none, IsTrue, ◌↔◌}
use Rattle.oas_record.specs.declared.records.Record.{Record}
use Rattle.oas_record.specs.declared.references.CellRef.{CellRef}
use Rattle.oas_record.specs.declared.references.CellRef.TheVariants as cell
use Rattle.oas_record.specs.declared.references.TextRef.{TextRef}
use Rattle.oas_record.specs.declared.references.TextRef.TheVariants as text
use Rattle.oas_reader.specs.Names.{Table, TableRepresents, cell_names, text_strings, named, name_of}
use Rattle.oas_reader.specs.References.{cell_by, string_by, cell_used, string_used, is_unknown, uses_unknown, lacks_name, IsUsed}
use Rattle.oas_reader.specs.Laws.NameLaws.{UsesUnknown}
use Rattle.oas_reader.proofs.NameLemmas.{no_string_is_given}

pub same_cell_by : (names names' : List (ℕ × List ℕ)) (cell : CellRef) → ((q : ℕ) → name_of names q ≡ name_of names' q) → cell_by names cell ≡ cell_by names' cell
same_cell_by names names' (cell.Number number) h = h number
same_cell_by names names' (cell.Name name) h = refl

pub same_string_by : (names names' : List (ℕ × List ℕ)) (text : TextRef) → ((q : ℕ) → name_of names q ≡ name_of names' q) → string_by names text ≡ string_by names' text
same_string_by names names' (text.Number number) h = h number
same_string_by names names' (text.Label label) h = refl

-- ---- names that are missing

some_true : (a b : Bool) → a || b ≡ true → (a ≡ true) ⊎ (b ≡ true)
some_true true b h = inl refl
some_true false b h = inr h

true_right : (a b : Bool) → b ≡ true → a || b ≡ true
true_right true b h = refl
true_right false b h = h

none_is : {A : Type 0} (o : Option A) → is_none o ≡ true → o ≡ None
none_is None h = refl
none_is (Some x) h = cc

used_past : (used : Record → Option ℕ) (r : Record) (rs : List Record) (number : ℕ) → IsUsed used rs number → IsUsed used (r ∷ rs) number
used_past used r rs number h = record { after = r ∷ h.after; by = h.by; before = h.before; split = ap (λ xs. r ∷ xs) h.split; gave = h.gave }

used_here : (used : Record → Option ℕ) (names : List (ℕ × List ℕ)) (r : Record) (rs : List Record) (o : Option ℕ) → used r ≡ o → is_unknown names o ≡ true → (number : ℕ)
    × IsUsed used (r ∷ rs) number × (name_of names number ≡ None)
used_here used names r rs None e h = cc
used_here used names r rs (Some number) e h = (number, record { after = []; by = r; before = rs; split = refl; gave = e }, none_is (name_of names number) h)

used_found : (used : Record → Option ℕ) (names : List (ℕ × List ℕ)) (rs : List Record) → uses_unknown used names rs ≡ true → (number : ℕ) × IsUsed used rs number × (name_of names number ≡ None)
used_found used names [] h = cc
used_found used names (r ∷ rs) h =
    elim (some_true (is_unknown names (used r)) (uses_unknown used names rs) h) [
      | inl w ↦ used_here used names r rs (used r) refl w
      | inr w ↦ let found = used_found used names rs w in (found.0, used_past used r rs found.0 found.1, found.2)
    ]

used_at : (used : Record → Option ℕ) (names : List (ℕ × List ℕ)) (rs : List Record) (number : ℕ) (after : List Record) (by : Record) (before : List Record) → rs ≡ after ++ by ∷ before → used by
    ≡ Some number → name_of names number ≡ None → uses_unknown used names rs ≡ true
used_at used names [] number [] by before split gave none = cc
used_at used names [] number (a ∷ after) by before split gave none = cc
used_at used names (r ∷ rs) number [] by before split gave none =
    let one : r ≡ by = cc in
    ap (λ o. is_unknown names o || uses_unknown used names rs) (ap used one ∙ gave) ∙ ap (λ (o : Option (List ℕ)). is_none o || uses_unknown used names rs) none
used_at used names (r ∷ rs) number (a ∷ after) by before split gave none =
    let rest : rs ≡ after ++ by ∷ before = cc in
    true_right (is_unknown names (used r)) (uses_unknown used names rs) (used_at used names rs number after by before rest gave none)

unknown_where : (used : Record → Option ℕ) (given : Record → Option (List ℕ × Option ℕ)) (rs : List Record) → (uses_unknown used (named given rs) rs ≡ true) ↔ UsesUnknown used given rs
unknown_where used given rs = (
  λ h. let found = used_found used (named given rs) rs h in (found.0, found.1, (no_string_is_given given rs found.0).0 found.2),
  λ u. used_at used (named given rs) rs u.0 u.1.after u.1.by u.1.before u.1.split u.1.gave ((no_string_is_given given rs u.0).1 u.2),
)

both_true : (a b : Bool) (P Q : Type 0) → ((a ≡ true) ↔ P) → ((b ≡ true) ↔ Q) → IsTrue (a || b) ↔ (P ⊎ Q)
both_true true b P Q p q = (λ h. inl (p.0 refl), λ h. refl)
both_true false true P Q p q = (λ h. inr (q.0 refl), λ h. refl)
both_true false false P Q p q = (λ h. inl (p.0 h), λ h. elim h [ inl x ↦ p.1 x | inr x ↦ q.1 x ])

pub lacks_where : (rs : List Record) → IsTrue (lacks_name rs) ↔ (UsesUnknown cell_used cell_names rs ⊎ UsesUnknown string_used text_strings rs)
lacks_where rs = both_true _ _ _ _ (unknown_where cell_used cell_names rs) (unknown_where string_used text_strings rs)

same_unknown : (names names' : List (ℕ × List ℕ)) (o : Option ℕ) → ((q : ℕ) → name_of names q ≡ name_of names' q) → is_unknown names o ≡ is_unknown names' o
same_unknown names names' None h = refl
same_unknown names names' (Some number) h = ap (λ (o : Option (List ℕ)). is_none o) (h number)

same_uses : (used : Record → Option ℕ) (names names' : List (ℕ × List ℕ)) (rs : List Record) → ((q : ℕ) → name_of names q ≡ name_of names' q) → uses_unknown used names rs ≡ uses_unknown used names' rs
same_uses used names names' [] h = refl
same_uses used names names' (r ∷ rs) h = ap (λ b. b || uses_unknown used names rs) (same_unknown names names' (used r) h) ∙ ap (λ b. is_unknown names' (used r) || b) (same_uses used names names' rs h)

pub lacks_tables : (cells strings : Table (List ℕ)) (rs : List Record) → TableRepresents cell_names cells rs → TableRepresents text_strings strings rs
    → uses_unknown cell_used cells.named rs || uses_unknown string_used strings.named rs ≡ lacks_name rs
lacks_tables cells strings rs c s =
    ap (λ b. b || uses_unknown string_used strings.named rs) (same_uses cell_used cells.named (named cell_names rs) rs c.agrees) ∙
    ap (λ b. uses_unknown cell_used (named cell_names rs) rs || b) (same_uses string_used strings.named (named text_strings rs) rs s.agrees)
