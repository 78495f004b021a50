-- The meaning of an accepted file is sound: each of its names and elements can be spelled, and has its points within the
-- grid.
use Rattle.std.proofs.Common.{◌≡◌, ℕ, ◌+◌, ◌≤◌, Bool, true, false, cond, List, [], ◌∷◌, ◌++◌, reverse, length, Option, None, Some, refl, sym, ap, subst, ◌∙◌, arith, length-append}
use Rattle.std.specs.Prelude.{IfSome, nat_eq}
use Rattle.std.specs.Option.{option_map}
use Rattle.std.specs.List.{AllByRecursion}
use Rattle.std.specs.Map.{keys_of, lookup}
use Rattle.oas_num.specs.Texts.{IsName, IsLabel}
use Rattle.oas_record.specs.declared.heads.Head.{Head}
use Rattle.oas_record.specs.declared.records.Record.{Record}
use Rattle.oas_record.specs.declared.records.Record.TheVariants as record_of
use Rattle.oas_record.specs.declared.references.CellRef.{CellRef}
use Rattle.oas_record.specs.declared.references.CellRef.TheVariants as cell
use Rattle.oas_elements.specs.declared.element.Element.{Element}
use Rattle.oas_elements.specs.declared.element.Element.TheVariants as element
use Rattle.oas_elements.specs.declared.limits.Limits.{Limits}
use Rattle.oas_elements.specs.Meaning.{Meaning, element_count, cells_weight}
use Rattle.oas_elements.specs.Sound.{IsSound, IsUnit}
use Rattle.oas_file.specs.Drawn.{Drawn}
use Rattle.oas_file.specs.Drawn.TheVariants.{Named, PlacementBy, TextBy}
use Rattle.oas_file.specs.Drawing.{elements_at}
use Rattle.oas_file.specs.Names.{cell_names, text_strings, name_of, named}
use Rattle.oas_file.specs.References.{cell_by}
use Rattle.oas_file.specs.Meaning.{DrawnCell, element_by, with_element, elements_by_name, with_named, cells_by_name, has_twice, in_last, cells_drawn}
use Rattle.oas_file.specs.Stands as stands
use Rattle.oas_file.specs.Stands.{number_drawn, records_mean}
use Rattle.oas_file.proofs.TakeLemmas.{all_append}
use Rattle.oas_file.specs.Acceptance.{Accepted}
use Rattle.oas_form.specs.Spelling.{IsSpellable}
use Rattle.oas_form.proofs.FieldsGiven.{CellFits, GivenFieldsFit}
use Rattle.oas_form.proofs.AllGiven.{all_given, unit_given}
use Rattle.oas_form.proofs.Held.{whole_once, whole_light}
use Rattle.oas_form.proofs.MeantLemmas.{onto, reverse-is}
use Rattle.oas_form.proofs.DrawsSound.{IsSoundDrawn, DrawsSound, draws_sound}

-- ---- the cells that are drawn

-- what END may find in them
pub record AreDrawnSound (limits : Limits) (before : List Record) : Type 0 where
  pub refs : AllByRecursion (λ c. CellFits c.0) (cells_drawn elements_at before)
  pub sound : AllByRecursion (λ c. AllByRecursion IsSoundDrawn c.1) (cells_drawn elements_at before)
  pub few : number_drawn before ≤ limits.elements

-- how many are drawn in cells
abbrev pub drawn_number : List DrawnCell → ℕ
drawn_number [] = 0
drawn_number (c ∷ cs) = length c.1 + drawn_number cs

refs_last : (ds : List Drawn) (cs : List DrawnCell) → AllByRecursion (λ c. CellFits c.0) cs → AllByRecursion (λ c. CellFits c.0) (in_last ds cs)
refs_last ds [] h = tt
refs_last ds (c ∷ []) h = h
refs_last ds (c ∷ b ∷ cs) h = (h.0, refs_last ds (b ∷ cs) h.1)

sound_last : (ds : List Drawn) (cs : List DrawnCell) → AllByRecursion IsSoundDrawn ds → AllByRecursion (λ c. AllByRecursion IsSoundDrawn c.1) cs →
    AllByRecursion (λ c. AllByRecursion IsSoundDrawn c.1) (in_last ds cs)
sound_last ds [] s h = tt
sound_last ds (c ∷ []) s h = (all_append IsSoundDrawn c.1 ds h.0 s, tt)
sound_last ds (c ∷ b ∷ cs) s h = (h.0, sound_last ds (b ∷ cs) s h.1)

number_last : (ds : List Drawn) (cs : List DrawnCell) → drawn_number (in_last ds cs) ≤ drawn_number cs + length ds
number_last ds [] = omega arith
number_last ds (c ∷ []) = omega (arith, length-append c.1 ds)
number_last ds (c ∷ b ∷ cs) = omega (arith, number_last ds (b ∷ cs))

number_append : (cs : List DrawnCell) (c : DrawnCell) → drawn_number (cs ++ c ∷ []) ≡ drawn_number cs + length c.1
number_append [] c = omega arith
number_append (d ∷ ds) c = omega (arith, number_append ds c)

-- what one more record does to the cells: a CELL opens one, any other adds what it draws to the last
abbrev ByLast : Record → List Record → Type 0
ByLast r before = cells_drawn elements_at (r ∷ before) ≡ in_last (elements_at r before) (cells_drawn elements_at before)

drawn_step : (P : Record → Type 0) → ((c : CellRef) → P (record_of.Cell c)) → (before : List Record) → ((r : Record) → ByLast r before → P r) → (r : Record) → P r
drawn_step P opens before more (record_of.Cell c) = opens c
drawn_step P opens before more r = more r refl

pub number_is : (before : List Record) → drawn_number (cells_drawn elements_at before) ≤ number_drawn before
number_is [] = omega arith
number_is (r ∷ before) =
    drawn_step (λ r. drawn_number (cells_drawn elements_at (r ∷ before)) ≤ number_drawn (r ∷ before))
    (λ c. omega (arith, number_append (cells_drawn elements_at before) (c, []), number_is before)) before
    (λ r is. omega (arith, ap drawn_number is, number_last (elements_at r before) (cells_drawn elements_at before), number_is before)) r

pub drawn_sound : (limits : Limits) (before : List Record) → AllByRecursion GivenFieldsFit before → stands.Allowed limits before → AreDrawnSound limits before
drawn_sound limits [] given h = record { refs = tt; sound = tt; few = omega arith }
drawn_sound limits (r ∷ before) given h =
    let rest = drawn_sound limits before given.1 h.0 in
    let here = draws_sound limits r before given rest.few h.1 in
    drawn_step (λ r. GivenFieldsFit r → DrawsSound limits r before → AreDrawnSound limits (r ∷ before))
    (λ c fits d. record {
      refs = all_append (λ (c : DrawnCell). CellFits c.0) (cells_drawn elements_at before) ((c, []) ∷ []) rest.refs (fits.name, tt);
      sound = all_append (λ (c : DrawnCell). AllByRecursion IsSoundDrawn c.1) (cells_drawn elements_at before) ((c, []) ∷ []) rest.sound (tt, tt);
      few = d.few;
    })
    before
    (λ r is fits d. record {
      refs = subst (AllByRecursion (λ c. CellFits c.0)) (sym is) (refs_last (elements_at r before) (cells_drawn elements_at before) rest.refs);
      sound = subst (AllByRecursion (λ c. AllByRecursion IsSoundDrawn c.1)) (sym is) (sound_last (elements_at r before) (cells_drawn elements_at before) d.sound rest.sound);
      few = d.few;
    })
    r given.0 here

-- ---- the names of numbers

abbrev AllNamed : (List ℕ → Type 0) → List (ℕ × List ℕ) → Type 0
AllNamed P names = AllByRecursion (λ p. P p.1) names

names_fit : (rs : List Record) → AllByRecursion GivenFieldsFit rs → AllNamed IsName (named cell_names rs)
names_fit [] h = tt
names_fit (record_of.CellName name number ∷ before) h = (h.0.name, names_fit before h.1)
names_fit (_ ∷ before) h = names_fit before h.1

strings_fit : (rs : List Record) → AllByRecursion GivenFieldsFit rs → AllNamed IsLabel (named text_strings rs)
strings_fit [] h = tt
strings_fit (record_of.TextString label number ∷ before) h = (h.0.name, strings_fit before h.1)
strings_fit (_ ∷ before) h = strings_fit before h.1

-- what is found is one of them
found_fits : (P : List ℕ → Type 0) (test : ℕ → Bool) (names : List (ℕ × List ℕ)) → AllNamed P names → IfSome (lookup test names) P
found_fits P test [] h = tt
found_fits P test (p ∷ ps) h = elim (test p.0) as (λ b. IfSome (cond b (Some p.1) (lookup test ps)) P) [ true ↦ h.0 | false ↦ found_fits P test ps h.1 ]

-- ---- the meaning

module _ (names strings : List (ℕ × List ℕ)) (n : AllNamed IsName names) (s : AllNamed IsLabel strings) where
  element_sound : (d : Drawn) → IsSoundDrawn d → IfSome (element_by names strings d) IsSound
  element_sound (Named e) h = record { points = h.fit.points; inside = h.fit.inside; fits = h.fields }
  element_sound (PlacementBy number x y turns flip) h = by (name_of names number) (found_fits IsName (nat_eq number) names n) where
    by : (o : Option (List ℕ)) → IfSome o IsName → IfSome (option_map (λ cell. element.Placement cell x y turns flip) o) IsSound
    by None f = tt
    by (Some name) f = record { points = refl; inside = h.fit.inside; fits = f }
  element_sound (TextBy number textlayer texttype x y) h = by (name_of strings number) (found_fits IsLabel (nat_eq number) strings s) where
    by : (o : Option (List ℕ)) → IfSome o IsLabel → IfSome (option_map (λ string. element.Text string textlayer texttype x y) o) IsSound
    by None f = tt
    by (Some string) f = record { points = refl; inside = h.fit.inside; fits = record { string_fits = f; textlayer_fits = h.fields.0; texttype_fits = h.fields.1 } }

  elements_sound : (ds : List Drawn) → AllByRecursion IsSoundDrawn ds → AllByRecursion IsSound (elements_by_name names strings ds)
  elements_sound [] h = tt
  elements_sound (d ∷ ds) h = by (element_by names strings d) (element_sound d h.0) (elements_sound ds h.1) where
    by : (o : Option Element) → IfSome o IsSound → AllByRecursion IsSound (elements_by_name names strings ds) → AllByRecursion IsSound (with_element o (elements_by_name names strings ds))
    by None f rest = rest
    by (Some e) f rest = (f, rest)

  elements_number : (ds : List Drawn) → length (elements_by_name names strings ds) ≤ length ds
  elements_number [] = omega arith
  elements_number (d ∷ ds) = by (element_by names strings d) (elements_number ds) where
    by : (o : Option Element) → length (elements_by_name names strings ds) ≤ length ds → length (with_element o (elements_by_name names strings ds)) ≤ length (d ∷ ds)
    by None rest = omega (arith, rest)
    by (Some e) rest = omega (arith, rest)

  ref_fits : (c : CellRef) → CellFits c → IfSome (cell_by names c) IsName
  ref_fits (cell.Number number) h = found_fits IsName (nat_eq number) names n
  ref_fits (cell.Name name) h = h

  -- the cells of the meaning
  pub record AreMeantSound (ds : List DrawnCell) : Type 0 where
    pub names_fit : AllByRecursion (λ c. IsName c.0) (cells_by_name names strings ds)
    pub sound : AllByRecursion (λ c. AllByRecursion IsSound c.1) (cells_by_name names strings ds)
    pub few : element_count (cells_by_name names strings ds) ≤ drawn_number ds

  meant_sound : (ds : List DrawnCell) → AllByRecursion (λ c. CellFits c.0) ds → AllByRecursion (λ c. AllByRecursion IsSoundDrawn c.1) ds → AreMeantSound ds
  meant_sound [] refs sound = record { names_fit = tt; sound = tt; few = omega arith }
  meant_sound (d ∷ ds) refs sound = let all = by (cell_by names d.0) (ref_fits d.0 refs.0) (meant_sound ds refs.1 sound.1) in record { names_fit = all.0; sound = all.1; few = all.2 } where
    by : (o : Option (List ℕ)) → IfSome o IsName → AreMeantSound ds →
        AllByRecursion (λ c. IsName c.0) (with_named o (elements_by_name names strings d.1) (cells_by_name names strings ds)) ×
        AllByRecursion (λ c. AllByRecursion IsSound c.1) (with_named o (elements_by_name names strings d.1) (cells_by_name names strings ds)) ×
        (element_count (with_named o (elements_by_name names strings d.1) (cells_by_name names strings ds)) ≤ drawn_number (d ∷ ds))
    by None f rest = (rest.names_fit, rest.sound, omega (arith, rest.few))
    by (Some name) f rest = ((f, rest.names_fit), (elements_sound d.1 sound.0, rest.sound), omega (arith, rest.few, elements_number d.1))

-- ---- the meaning of a file

all_onto : (P : Record → Type 0) (xs ys : List Record) → AllByRecursion P xs → AllByRecursion P ys → AllByRecursion P (onto xs ys)
all_onto P [] ys a b = b
all_onto P (x ∷ xs) ys a b = all_onto P xs (x ∷ ys) a.1 (a.0, b)

-- the meaning of an accepted file can be spelled, is within the limits, and no name occurs twice in it
pub record IsSoundMeaning (limits : Limits) (m : Meaning) : Type 0 where
  pub spellable : IsSpellable m
  pub few : element_count m.cells ≤ limits.elements
  pub light : cells_weight m.cells ≤ limits.weight
  pub once : has_twice (keys_of m.cells) ≡ false

pub records_sound : (limits : Limits) (b : List ℕ) → (h : Accepted limits b) → IsSoundMeaning limits (records_mean h.head.unit h.records)
records_sound limits b h =
    let front = h.file.spelled.first in
    let start = front.spelled.second in
    let body = h.file.spelled.second in
    let given = all_given h.head.flag_in_end h.records body.front body.first in
    let newest = subst (AllByRecursion GivenFieldsFit) (sym (reverse-is h.records)) (all_onto GivenFieldsFit h.records [] given tt) in
    let drawn = drawn_sound limits (reverse h.records) newest h.allowed in
    let meant = meant_sound (named cell_names (reverse h.records)) (named text_strings (reverse h.records)) (names_fit (reverse h.records) newest) (strings_fit (reverse h.records) newest)
    (cells_drawn elements_at (reverse h.records)) drawn.refs drawn.sound in
    let light = whole_light limits h.head.unit h.records h.whole in
    record {
      spellable = record {
        unit = subst (λ (head : Head). IsUnit head.unit) (start.is ∙ front.is) (unit_given start.from.1.1.0 _ start.spelled.second.second.first);
        names = meant.names_fit;
        sound = meant.sound;
        light = omega (arith, light, limits.light);
      };
      few = omega (arith, meant.few, number_is (reverse h.records), drawn.few);
      light = light;
      once = whole_once limits h.head.unit h.records h.whole;
    }
