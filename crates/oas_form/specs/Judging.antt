-- Whether a file is a canonical form, judged record by record as it is read. Only the name of the open cell and the latest
-- element in it are kept. Records and entries are listed oldest first, except that `before` is newest first.
use Rattle.std.specs.Prelude.{◌≡◌, ◌↔◌, ℕ, ◌≤◌, ◌^◌, Bool, true, false, IsTrue, List, [], ◌∷◌, ◌++◌, map, reverse, Option, None, Some}
use Rattle.std.specs.List.{AllByRecursion}
use Rattle.std.specs.Ordering.{nat_cmp, is_gt}
use Rattle.std.specs.Cmp.Lexicographic.{slice_cmp}
use Rattle.std.specs.declared.cmp.Ordering.TheVariants.{Less}
use Rattle.oas_num.specs.Grammar.{IsSuch}
use Rattle.oas_num.specs.Ratio.{Ratio}
use Rattle.oas_num.specs.Style.{Any, Shortest}
use Rattle.oas_num.specs.Texts.{IsName}
use Rattle.oas_record.specs.declared.heads.Head.{Head}
use Rattle.oas_record.specs.declared.records.Record.{Record}
use Rattle.oas_record.specs.declared.records.Record.TheVariants as record_of
use Rattle.oas_record.specs.declared.references.CellRef.TheVariants as cell
use Rattle.oas_record.specs.Heads.{head_in}
use Rattle.oas_record.specs.Records.{record_in, IsInner}
use Rattle.oas_elements.specs.declared.element.Element.{Element}
use Rattle.oas_elements.specs.declared.limits.Limits.{Limits}
use Rattle.oas_elements.specs.declared.profile.Profile.{Profile}
use Rattle.oas_elements.specs.Element.{element_cmp}
use Rattle.oas_elements.specs.Same.{normal, IsNormal}
use Rattle.oas_elements.specs.Sound.{IsSound, IsUnit}
use Rattle.oas_elements.specs.Weight.{weight_of}
use Rattle.oas_elements.specs.Meaning.{Meaning}
use Rattle.oas_file.specs.Drawn.{Drawn}
use Rattle.oas_file.specs.Drawn.TheVariants.{Named}
use Rattle.oas_file.specs.Drawing.{elements_at}
use Rattle.oas_file.specs.Acceptance.{Allowed, Accepted, Means}
use Rattle.oas_form.specs.Bytes.{opening_bytes, element_bytes, head_bytes, end_bytes, canonical_bytes}
use Rattle.oas_form.specs.Canonical.{IsOrdered, CanonicalForm}
use Rattle.oas_form.specs.Records.{element_record}
use Rattle.oas_form.specs.declared.judging.FormJudge.{FormJudge}

-- ---- a file as it was read

-- a record, and the bytes that it was read from
abbrev pub Entry : Type 0
Entry = Record × List ℕ

abbrev pub entry_records : List Entry → List Record
entry_records entries = map (λ e. e.0) entries

-- all their bytes
abbrev pub entry_bytes : List Entry → List ℕ
entry_bytes [] = []
entry_bytes (e ∷ es) = e.1 ++ entry_bytes es

-- the bytes were read as the magic and START, these entries, and END
pub record IsReadAs (b : List ℕ) (head : Head) (start : List ℕ) (entries : List Entry) (last : List ℕ) : Type 0 where
  pub begun : head_in Any head start
  pub each : AllByRecursion (λ e. IsSuch IsInner (record_in Any head.flag_in_end) e.0 e.1) entries
  pub ended : record_in Any head.flag_in_end record_of.End last
  pub joined : b ≡ start ++ (entry_bytes entries ++ last)

-- ---- the judge

-- The name of the open cell, None before the first; and the latest element in it, None before its first.
pub record Judge : Type 0 where
  pub name : Option (List ℕ)
  pub element : Option Element

abbrev pub first_judge : Judge
first_judge = record { name = None; element = None }

-- the name is above that of the cell before it
abbrev pub IsAbove : Option (List ℕ) → List ℕ → Type 0
IsAbove None name = Unit {0}
IsAbove (Some before) name = slice_cmp nat_cmp before name ≡ Less

-- the element isn't below the one before it
abbrev pub IsNotBelow : Option Element → Element → Type 0
IsNotBelow None e = Unit {0}
IsNotBelow (Some before) e = is_gt (element_cmp before e) ≡ false

-- one element was drawn, which is in the form that the profile keeps, and not below the one before it
abbrev pub IsDrawnInOrder : Profile → Judge → List Drawn → Type 0
IsDrawnInOrder profile j (Named e ∷ []) = IsNormal profile e × IsNotBelow j.element e
IsDrawnInOrder profile j _ = ⊥

-- a record that draws these is in order
abbrev pub IsInOrder : Profile → Judge → Record → List Drawn → Type 0
IsInOrder profile j (record_of.Cell (cell.Name name)) ds = IsAbove j.name name
IsInOrder profile j (record_of.Cell (cell.Number number)) ds = ⊥
IsInOrder profile j r ds = IsDrawnInOrder profile j ds

-- the judge after what was drawn
abbrev pub judge_drawn : Judge → List Drawn → Judge
judge_drawn j (Named e ∷ []) = record { name = j.name; element = Some e }
judge_drawn j _ = j

-- the judge after a record that draws these
abbrev pub judge_after : Judge → Record → List Drawn → Judge
judge_after j (record_of.Cell (cell.Name name)) ds = record { name = Some name; element = None }
judge_after j (record_of.Cell (cell.Number number)) ds = j
judge_after j r ds = judge_drawn j ds

-- the judge after these records
abbrev pub judge_of : List Record → Judge
judge_of [] = first_judge
judge_of (r ∷ before) = judge_after (judge_of before) r (elements_at r before)

-- each of them is in order
abbrev pub AreInOrder : Profile → List Record → Type 0
AreInOrder profile [] = Unit {0}
AreInOrder profile (r ∷ before) = AreInOrder profile before × IsInOrder profile (judge_of before) r (elements_at r before)

-- one more entry: it is spelled in the shortest style, and in order
abbrev pub EntryJudged : Profile → Head → Judge → Entry → List Drawn → Type 0
EntryJudged profile head j e ds = record_in Shortest head.flag_in_end e.0 e.1 × IsInOrder profile j e.0 ds

-- what was read so far: the magic, START and these entries
pub record JudgedSoFar (profile : Profile) (head : Head) (start : List ℕ) (entries : List Entry) : Type 0 where
  pub head_shortest : head_in Shortest head start
  pub shortest : AllByRecursion (λ e. record_in Shortest head.flag_in_end e.0 e.1) entries
  pub in_order : AreInOrder profile (reverse (entry_records entries))

-- all of the file
pub record JudgedFile (profile : Profile) (head : Head) (start : List ℕ) (entries : List Entry) (last : List ℕ) : Type 0 where
  pub so_far : JudgedSoFar profile head start entries
  pub end_shortest : record_in Shortest head.flag_in_end record_of.End last

-- ---- the laws

-- an accepted file is a canonical form exactly if it was judged to be one
abbrev pub JudgeIsRight : Type 0
JudgeIsRight = (limits : Limits) (profile : Profile) (b : List ℕ) (head : Head) (start : List ℕ) (entries : List Entry) (last : List ℕ) → Accepted limits b → IsReadAs b head start entries last
    → CanonicalForm limits profile b ↔ JudgedFile profile head start entries last

-- every accepted file was read as something
abbrev pub IsReadAsSome : Type 0
IsReadAsSome = (limits : Limits) (b : List ℕ) → Accepted limits b → (head : Head) × (start : List ℕ) × (entries : List Entry) × (last : List ℕ) × IsReadAs b head start entries last

-- only START was read
abbrev pub JudgeBegins : Type 0
JudgeBegins = (profile : Profile) (head : Head) (start : List ℕ) → head_in Shortest head start ↔ JudgedSoFar profile head start []

-- one more entry
abbrev pub JudgeGoesOn : Type 0
JudgeGoesOn = (profile : Profile) (head : Head) (start : List ℕ) (entries : List Entry) (e : Entry)
    → JudgedSoFar profile head start (entries ++ e ∷ [])
    ↔ (JudgedSoFar profile head start entries × EntryJudged profile head (judge_of (reverse (entry_records entries))) e (elements_at e.0 (reverse (entry_records entries))))

-- what was judged is judged at each place before, so a file that once failed fails whatever follows
abbrev pub JudgeStays : Type 0
JudgeStays = (profile : Profile) (head : Head) (start : List ℕ) (entries more : List Entry) → JudgedSoFar profile head start (entries ++ more) → JudgedSoFar profile head start entries

-- and the judge after it
abbrev pub JudgeSteps : Type 0
JudgeSteps = (entries : List Entry) (e : Entry) → judge_of (reverse (entry_records (entries ++ e ∷ [])))
    ≡ judge_after (judge_of (reverse (entry_records entries))) e.0 (elements_at e.0 (reverse (entry_records entries)))

-- ---- what is spelled in the shortest style, by comparing bytes

abbrev pub HeadIsBytes : Type 0
HeadIsBytes = (unit : Ratio) (bytes : List ℕ) → IsUnit unit → head_in Shortest (record { unit = unit; flag_in_end = false }) bytes ↔ (bytes ≡ head_bytes unit)

abbrev pub CellIsBytes : Type 0
CellIsBytes = (name bytes : List ℕ) → IsName name → record_in Shortest false (record_of.Cell (cell.Name name)) bytes ↔ (bytes ≡ opening_bytes name)

abbrev pub ElementIsBytes : Type 0
ElementIsBytes = (e : Element) (bytes : List ℕ) → IsSound e → weight_of e ≤ 2 ^ 30 → record_in Shortest false (element_record e) bytes ↔ (bytes ≡ element_bytes e)

abbrev pub EndIsBytes : Type 0
EndIsBytes = (bytes : List ℕ) → record_in Shortest false record_of.End bytes ↔ (bytes ≡ end_bytes)

-- ---- the judge that compares bytes

-- one element was drawn, its canonical bytes are what was read, and it is in order
abbrev pub MatchesDrawn : Profile → Judge → List ℕ → List Drawn → Type 0
MatchesDrawn profile j bytes (Named e ∷ []) = (bytes ≡ element_bytes e) × IsNormal profile e × IsNotBelow j.element e
MatchesDrawn profile j bytes _ = ⊥

-- the bytes of the record are the canonical ones of what it draws, and it is in order
abbrev pub Matches : Profile → Judge → Record → List ℕ → List Drawn → Type 0
Matches profile j (record_of.Cell (cell.Name name)) bytes ds = (bytes ≡ opening_bytes name) × IsAbove j.name name
Matches profile j (record_of.Cell (cell.Number number)) bytes ds = ⊥
Matches profile j r bytes ds = MatchesDrawn profile j bytes ds

-- each of the entries after those records
abbrev pub AllMatch : Profile → List Record → List Entry → Type 0
AllMatch profile before [] = Unit {0}
AllMatch profile before (e ∷ es) = Matches profile (judge_of before) e.0 e.1 (elements_at e.0 before) × AllMatch profile (e.0 ∷ before) es

-- all of the file
pub record JudgedByBytes (profile : Profile) (head : Head) (start : List ℕ) (entries : List Entry) (last : List ℕ) : Type 0 where
  pub flag : head.flag_in_end ≡ false
  pub start_is : start ≡ head_bytes head.unit
  pub match : AllMatch profile [] entries
  pub last_is : last ≡ end_bytes

-- an accepted file is a canonical form exactly if all its bytes are the canonical ones of what they draw, in order
abbrev pub BytesJudge : Type 0
BytesJudge = (limits : Limits) (profile : Profile) (b : List ℕ) (head : Head) (start : List ℕ) (entries : List Entry) (last : List ℕ) → Accepted limits b → IsReadAs b head start entries last
    → CanonicalForm limits profile b ↔ JudgedByBytes profile head start entries last

-- one more entry
abbrev pub BytesGoOn : Type 0
BytesGoOn = (profile : Profile) (entries : List Entry) (e : Entry)
    → AllMatch profile [] (entries ++ e ∷ []) ↔ (AllMatch profile [] entries × Matches profile (judge_of (reverse (entry_records entries))) e.0 e.1 (elements_at e.0 (reverse (entry_records entries))))

-- Where entries match and one more is allowed that draws one element, its bytes are the canonical ones of its kept form
-- exactly if they are its own canonical bytes and it is in that form. So one comparison decides both.
abbrev pub KeptBytes : Type 0
KeptBytes = (limits : Limits) (profile : Profile) (entries : List Entry) (x : Entry) (e : Element)
    → AllByRecursion (λ e. IsSuch IsInner (record_in Any false) e.0 e.1) (entries ++ x ∷ []) → Allowed limits (entry_records (entries ++ x ∷ [])) → AllMatch profile [] entries
    → elements_at x.0 (reverse (entry_records entries)) ≡ Named e ∷ [] → (x.1 ≡ element_bytes (normal profile e)) ↔ ((x.1 ≡ element_bytes e) × IsNormal profile e)

-- an accepted file is a canonical form exactly if its meaning is in order and its bytes are the canonical ones of that
abbrev pub FormIsOrderedBytes : Type 0
FormIsOrderedBytes = (limits : Limits) (profile : Profile) (b : List ℕ) (m : Meaning) → Accepted limits b → Means b m → CanonicalForm limits profile b
    ↔ (IsOrdered profile m.cells × (b ≡ canonical_bytes m))

-- ---- a judge in code

-- It represents these entries: it holds exactly if they match, and then has the latest name, and the latest element.
pub record JudgeRepresents (profile : Profile) (holds : Bool) (name : Option (List ℕ)) (element : Option Element) (entries : List Entry) : Type 0 where
  pub holds_is : IsTrue holds ↔ AllMatch profile [] entries
  pub name_is : IsTrue holds → name ≡ (judge_of (reverse (entry_records entries))).name
  pub element_is : IsTrue holds → element ≡ (judge_of (reverse (entry_records entries))).element

-- these entries were read, and are allowed
pub record AreRead (limits : Limits) (entries : List Entry) : Type 0 where
  pub each : AllByRecursion (λ e. IsSuch IsInner (record_in Any false) e.0 e.1) entries
  pub allowed : Allowed limits (entry_records entries)

-- before the first
abbrev pub JudgeStandsFirst : Type 0
JudgeStandsFirst = (profile : Profile) → JudgeRepresents profile true None None []

-- after a record that draws one element
abbrev pub JudgeDraws : Type 0
JudgeDraws = (limits : Limits) (profile : Profile) (entries : List Entry) (x : Entry) (e : Element) (holds now : Bool) (name : Option (List ℕ)) (element : Option Element)
    → AreRead limits (entries ++ x ∷ []) → elements_at x.0 (reverse (entry_records entries)) ≡ Named e ∷ [] → JudgeRepresents profile holds name element entries
    → IsTrue now ↔ (IsTrue holds × (element_bytes (normal profile e) ≡ x.1) × IsNotBelow element (normal profile e)) → JudgeRepresents profile now name (Some (normal profile e)) (entries ++ x ∷ [])

-- after a CELL by its name
abbrev pub JudgeOpens : Type 0
JudgeOpens = (profile : Profile) (entries : List Entry) (opened bytes : List ℕ) (holds now : Bool) (name : Option (List ℕ)) (element : Option Element)
    → JudgeRepresents profile holds name element entries → IsTrue now ↔ (IsTrue holds × (opening_bytes opened ≡ bytes) × IsAbove name opened)
    → JudgeRepresents profile now (Some opened) None (entries ++ (record_of.Cell (cell.Name opened), bytes) ∷ [])

-- after a record that can't match
abbrev pub JudgeRefuses : Type 0
JudgeRefuses = (profile : Profile) (entries : List Entry) (x : Entry) (holds : Bool) (name other : Option (List ℕ)) (element last : Option Element)
    → JudgeRepresents profile holds name element entries → (Matches profile (judge_of (reverse (entry_records entries))) x.0 x.1 (elements_at x.0 (reverse (entry_records entries))) → ⊥)
    → JudgeRepresents profile false other last (entries ++ x ∷ [])

-- ---- FormJudge

-- what it represents
abbrev pub Stands : Profile → FormJudge → List Entry → Type 0
Stands profile j entries = JudgeRepresents profile j.holds j.name j.element entries

-- it represents this entry too
abbrev pub GoesOn : FormJudge → Entry → FormJudge → Type 0
GoesOn old x new = (profile : Profile) (entries : List Entry) → Stands profile old entries → Stands profile new (entries ++ x ∷ [])

-- and also for each record with these bytes that draws one element, with this kept form
abbrev pub GoesOnDrawing : FormJudge → Element → List ℕ → FormJudge → Type 0
GoesOnDrawing old kept bytes new = (limits : Limits) (profile : Profile) (entries : List Entry) (r : Record) (e : Element)
    → AreRead limits (entries ++ (r, bytes) ∷ []) → elements_at r (reverse (entry_records entries)) ≡ Named e ∷ [] → kept ≡ normal profile e
    → Stands profile old entries → Stands profile new (entries ++ (r, bytes) ∷ [])

-- and for each entry that doesn't match
abbrev pub GoesOnRefusing : FormJudge → FormJudge → Type 0
GoesOnRefusing old new = (profile : Profile) (entries : List Entry) (x : Entry) → Stands profile old entries
    → (Matches profile (judge_of (reverse (entry_records entries))) x.0 x.1 (elements_at x.0 (reverse (entry_records entries))) → ⊥) → Stands profile new (entries ++ x ∷ [])
