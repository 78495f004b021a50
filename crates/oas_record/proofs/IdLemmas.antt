-- The ids of records.
use Rattle.std.proofs.Common.{◌≡◌, ◌≢◌, ℕ, ◌+◌, ◌<◌, ◌≤◌, Bool, true, false, List, [], ◌∷◌, Option, Some, None, inl, inr, refl, sym, ap, ◌∙◌, arith}
use Rattle.std.specs.Prelude.{◌==◌, ◌⊎◌, ◌||◌, ◌&&◌, not, nat_le}
use Rattle.std.proofs.lemmas.Bool.{eqb-true, cases_lt, and_parts}
use Rattle.std.proofs.lemmas.Bool.Decides.{eqb_tells, nat_tests}
use Rattle.oas_num.specs.Grammar.{IsThere, IsImage}
use Rattle.oas_num.specs.Combinators.{IsEither}
use Rattle.oas_num.specs.Integers.{IsUnsigned}
use Rattle.oas_num.specs.Style.{Any}
use Rattle.oas_record.specs.declared.records.Record.{Record}
use Rattle.oas_record.specs.declared.records.Record.TheVariants as record_of
use Rattle.oas_record.specs.declared.references.CellRef.{CellRef}
use Rattle.oas_record.specs.declared.references.CellRef.TheVariants as cell
use Rattle.oas_record.specs.declared.placements.Placement.{Placement}
use Rattle.oas_record.specs.References.{cell_in}
use Rattle.oas_record.specs.NameRecords.{cell_name_kind, text_string_kind}
use Rattle.oas_record.specs.Placements.{quarters_kind, degrees_kind}
use Rattle.oas_record.specs.declared.placements.Turn.{Turn}
use Rattle.oas_record.specs.declared.placements.Turn.TheVariants.{Quarters, Degrees}
use Rattle.oas_num.specs.declared.refusals.Why.{Why}
use Rattle.oas_record.specs.Trees.{Row, by_table, has_row, EachRow}
use Rattle.oas_record.specs.Records.{id_of, cell_name, text_string, a_cell, placement, table, after_id}
use Rattle.oas_record.specs.Refusals.{is_known, IsKnown, IsLeftOut, AfterTook}

-- ---- the id of what was read

either_cases : {V : Type 0} (id n : ℕ) (A B : V → List ℕ → Type 0) (v : V) (q : List ℕ) (test : Bool) → (id == n) ≡ test → IsEither test A B v q → ((id ≡ n) × A v q) ⊎ B v q
either_cases id n A B v q true is h = inl (eqb-true id n is, h)
either_cases id n A B v q false is h = inr h

pub either_id : {V : Type 0} (id n : ℕ) (A B : V → List ℕ → Type 0) (v : V) (q : List ℕ) → IsEither (id == n) A B v q → ((id ≡ n) × A v q) ⊎ B v q
either_id id n A B v q h = either_cases id n A B v q (id == n) refl h

-- what is spelled after an id has that id
abbrev IsOfItsId : Row Record → Type 0
IsOfItsId row = (v : Record) (q : List ℕ) → row.kind.any v q → id_of v ≡ row.number

made_of : {U : Type 0} (f : U → Record) (A : U → List ℕ → Type 0) (n : ℕ) → ((u : U) (q : List ℕ) → A u q → id_of (f u) ≡ n) → (v : Record) (q : List ℕ) → IsImage f A v q → id_of v ≡ n
made_of f A n is v q p = sym (ap id_of p.is) ∙ is p.from q p.spelled

cell_by_number : (c : CellRef) (q : List ℕ) → cell_in Any true c q → id_of (a_cell c) ≡ 13
cell_by_number c q s = sym (ap (λ c. id_of (a_cell c)) s.is)

cell_by_name : (c : CellRef) (q : List ℕ) → cell_in Any false c q → id_of (a_cell c) ≡ 14
cell_by_name c q s = sym (ap (λ c. id_of (a_cell c)) s.is)

by_quarters : (p : Placement) (q : List ℕ) → quarters_kind.any p q → id_of (placement p) ≡ 17
by_quarters p q s = sym (ap (λ p. id_of (placement p)) s.is)

by_degrees : (p : Placement) (q : List ℕ) → degrees_kind.any p q → id_of (placement p) ≡ 18
by_degrees p q s = sym (ap (λ p. id_of (placement p)) s.is)

plain_cell_name : (p : List ℕ × Option ℕ) (q : List ℕ) → (cell_name_kind false).any p q → id_of (cell_name p) ≡ 3
plain_cell_name p q s = elim p.1 as (λ o. IsThere false IsUnsigned o s.back → id_of (cell_name (p.0, o)) ≡ 3) [ None ↦ λ k. refl | Some n ↦ λ k. absurd k ] s.second

numbered_cell_name : (p : List ℕ × Option ℕ) (q : List ℕ) → (cell_name_kind true).any p q → id_of (cell_name p) ≡ 4
numbered_cell_name p q s = elim p.1 as (λ o. IsThere true IsUnsigned o s.back → id_of (cell_name (p.0, o)) ≡ 4) [ None ↦ λ k. absurd k | Some n ↦ λ k. refl ] s.second

plain_text_string : (p : List ℕ × Option ℕ) (q : List ℕ) → (text_string_kind false).any p q → id_of (text_string p) ≡ 5
plain_text_string p q s = elim p.1 as (λ o. IsThere false IsUnsigned o s.back → id_of (text_string (p.0, o)) ≡ 5) [ None ↦ λ k. refl | Some n ↦ λ k. absurd k ] s.second

numbered_text_string : (p : List ℕ × Option ℕ) (q : List ℕ) → (text_string_kind true).any p q → id_of (text_string p) ≡ 6
numbered_text_string p q s = elim p.1 as (λ o. IsThere true IsUnsigned o s.back → id_of (text_string (p.0, o)) ≡ 6) [ None ↦ λ k. absurd k | Some n ↦ λ k. refl ] s.second

-- the search takes the rows one after another, so that a row more needs no line here, where its record has that id whatever its fields are
ids_of_rows : (in_end : Bool) → EachRow IsOfItsId (table in_end)
ids_of_rows in_end = search (made_of, cell_by_number, cell_by_name, by_quarters, by_degrees, plain_cell_name, numbered_cell_name, plain_text_string, numbered_text_string) depth 60

id_by : (id : ℕ) (v : Record) (q : List ℕ) (rows : List (Row Record)) → EachRow IsOfItsId rows → (by_table id rows).any v q → id_of v ≡ id
id_by id v q [] each h = absurd h
id_by id v q (r ∷ rows) each h = elim (either_id id r.number _ _ v q h) [ inl p ↦ each.0 v q p.1 ∙ sym p.0 | inr rest ↦ id_by id v q rows each.1 rest ]

pub id_after : (in_end : Bool) (id : ℕ) (v : Record) (q : List ℕ) → after_id Any in_end id v q → id_of v ≡ id
id_after in_end id v q h = id_by id v q (table in_end) (ids_of_rows in_end) h

-- ---- ids that are known

turned_known : (turn : Turn) → IsKnown (elim turn [ Quarters turns ↦ 17 | Degrees magnification angle ↦ 18 ])
unfolding is_known
turned_known (Quarters turns) = refl
turned_known (Degrees magnification angle) = refl

pub known_id : (r : Record) → IsKnown (id_of r)
unfolding is_known
known_id (record_of.CellName name None) = refl
known_id (record_of.CellName name (Some number)) = refl
known_id (record_of.TextString label None) = refl
known_id (record_of.TextString label (Some number)) = refl
known_id (record_of.Cell (cell.Number number)) = refl
known_id (record_of.Cell (cell.Name name)) = refl
known_id (record_of.Placement p) = turned_known p.turn
known_id _ = refl

-- what isn't of the first row is of another
pub other_row : (id n : ℕ) (rest : Bool) → id ≢ n → ((id == n) || rest) ≡ true → rest ≡ true
other_row id n rest isnt h = elim (eqb_tells id n) [ inl is ↦ absurd (isnt is.1) | inr e ↦ ap (λ (b : Bool). b || rest) (sym e.0) ∙ h ]

either_known : (test rest : Bool) (A B : Why → List ℕ → Type 0) (why : Why) (bytes : List ℕ) → (B why bytes → rest ≡ true) → IsEither test A B why bytes → (test || rest) ≡ true
either_known true rest A B why bytes other h = refl
either_known false rest A B why bytes other h = other h

known_by : (id : ℕ) (why : Why) (bytes : List ℕ) (rows : List (Row Record)) → (by_table id rows).took why bytes → has_row id rows ≡ true
known_by id why bytes [] h = absurd h
known_by id why bytes (r ∷ rows) h = either_known (id == r.number) (has_row id rows) r.kind.took (by_table id rows).took why bytes (λ k. known_by id why bytes rows k) h

-- where a read of what follows an id goes wrong, the id is known
pub after_known : (in_end : Bool) (id : ℕ) (why : Why) (bytes : List ℕ) → AfterTook in_end id why bytes → IsKnown id
unfolding is_known
after_known in_end id why bytes h = known_by id why bytes (table in_end) h

-- ---- which ids they are

abbrev all_rows : (ℕ → Bool) → List (Row Record) → Bool
all_rows test [] = true
all_rows test (r ∷ rows) = test r.number && all_rows test rows

-- what is so of all rows
row_is : (test : ℕ → Bool) (id : ℕ) (rows : List (Row Record)) → all_rows test rows ≡ true → has_row id rows ≡ true → test id ≡ true
row_is test id [] all h = absurd cc
row_is test id (r ∷ rows) all h =
    let both = and_parts (test r.number) (all_rows test rows) all in
    elim (eqb_tells id r.number) [ inl is ↦ ap test is.1 ∙ both.0 | inr isnt ↦ row_is test id rows both.1 (other_row id r.number (has_row id rows) isnt.1 h) ]

-- an id of the standard, and not START's
pub known_within : (id : ℕ) → IsKnown id → (id ≢ 1) × (id ≤ 34)
unfolding is_known
known_within id known =
    let both = and_parts (not (id == 1)) (nat_le id 34) (row_is (λ n. not (n == 1) && nat_le n 34) id (table false) refl known) in
    (λ e. grind (arith, nat_tests, both.0, e), grind (arith, nat_tests, both.1))

-- none of 7 to 12
beside_names : (id : ℕ) → IsKnown id → 6 < id → 13 ≤ id
unfolding is_known
beside_names id known above =
    let beside = row_is (λ n. nat_le n 6 || nat_le 13 n) id (table false) refl known in
    grind (arith, nat_tests, beside, above)

one_of_two : (id n : ℕ) → n ≤ id → id ≤ n + 1 → (id ≡ n) ⊎ (id ≡ n + 1)
one_of_two id n le below = elim (cases_lt id (n + 1)) [ inl small ↦ inl (omega (arith, small, le)) | inr large ↦ inr (omega (arith, large, below)) ]

pub three_or_four : (id : ℕ) → IsKnown id → id ≢ 2 → id ≢ 0 → id ≤ 4 → (id ≡ 3) ⊎ (id ≡ 4)
three_or_four id known inner some le = let start = (known_within id known).0 in one_of_two id 3 (omega (arith, start, inner, some)) le

pub five_or_six : (id : ℕ) → 4 < id → id ≤ 6 → (id ≡ 5) ⊎ (id ≡ 6)
five_or_six id above le = one_of_two id 5 above le

pub thirteen_or_fourteen : (id : ℕ) → IsKnown id → 6 < id → id ≤ 14 → (id ≡ 13) ⊎ (id ≡ 14)
thirteen_or_fourteen id known above le = one_of_two id 13 (beside_names id known above) le

-- ---- ids that no record has

pub left_out_unknown : (id : ℕ) → IsLeftOut id → ¬ IsKnown id
left_out_unknown id h known = let no : ◌≡◌ {A = Bool} true false = sym known ∙ h.2 in absurd cc

pub large_unknown : (id : ℕ) → 34 < id → ¬ IsKnown id
large_unknown id h known = omega (arith, h, (known_within id known).1)

pub one_unknown : (id : ℕ) → id ≡ 1 → ¬ IsKnown id
one_unknown id h known = (known_within id known).0 h
