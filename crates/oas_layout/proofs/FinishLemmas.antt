-- The result of a reader of cells that are held as keys, at END.
use Rattle.std.proofs.Common.{◌≡◌, ℕ, ◌+◌, ◌≤◌, Bool, true, false, List, [], ◌∷◌, length, reverse, ◌⊎◌, inl, inr, Option, None, Some, refl, sym, ap, ◌∙◌, subst, arith}
use Rattle.std.specs.Prelude.{nat_lt}
use Rattle.std.specs.List.{AllByRecursion}
use Rattle.std.specs.Map.{keys_of}
use Rattle.std.proofs.lemmas.Bool.Decides.{nat_tests}
use Rattle.oas_num.specs.declared.refusals.Why.{Why}
use Rattle.oas_num.specs.declared.refusals.Why.TheVariants.{Memory, UnknownReference, DuplicateCell, TooHeavy}
use Rattle.oas_num.specs.Ratio.{Ratio}
use Rattle.oas_num.specs.Texts.{IsName}
use Rattle.oas_record.specs.declared.records.Record.{Record}
use Rattle.oas_elements.specs.declared.limits.Limits.{Limits}
use Rattle.oas_elements.specs.declared.profile.Profile.{Profile}
use Rattle.oas_elements.specs.declared.element.Element.{Element}
use Rattle.oas_elements.specs.Contents.{Cell, Contents, IsLayout}
use Rattle.oas_elements.specs.Meaning.{Meaning, element_count, cells_weight}
use Rattle.oas_elements.specs.Sound.{IsUnit}
use Rattle.oas_runs.specs.Entries.{Entry}
use Rattle.oas_form.specs.Drawn.{Drawn}
use Rattle.oas_form.specs.Drawing.{elements_at}
use Rattle.oas_form.specs.Reasons.{first_of}
use Rattle.oas_form.specs.Taken.{Taken}
use Rattle.oas_form.specs.Names.{cell_names, text_strings, named, TableRepresents}
use Rattle.oas_form.specs.References.{cell_by}
use Rattle.oas_form.specs.Meaning.{DrawnCell, element_by, with_element, elements_by_name, with_named, cells_by_name, lacks_name, has_twice, cells_drawn, meaning_by, end_reason}
use Rattle.oas_form.specs.Stands.{ReaderState, Represents, records_mean, end_refusal}
use Rattle.oas_form.specs.Stores.{HoldCells, total_count}
use Rattle.oas_form.specs.ReaderTaken.{HandsOver}
use Rattle.oas_form.proofs.FinishLemmas.{end_same, meaning_same}
use Rattle.oas_cells.specs.Compact.{Compact, IsCompact, compact_store}
use Rattle.oas_layout.specs.Keyed.{keyed_cells}
use Rattle.oas_layout.specs.Held.{AreSoundCells, HeldCells, cells_held, contents_of}
use Rattle.oas_layout.specs.Laws.HeldLaws.{cells_are}
use Rattle.oas_layout.specs.Counting.{counted_cells}
use Rattle.oas_layout.specs.LayoutOf.{IsLayoutOf}
use Rattle.oas_layout.specs.Finishing.{AreNamed, AreRunsOf}
use Rattle.oas_layout.proofs.PlaceLemmas.{names-keyed}
use Rattle.oas_layout.proofs.OrderLemmas.{CanBeHeld, are_sound, is_layout_of}

module _ (profile : Profile) (s : ReaderState Compact) (t : Taken Compact) (over : HandsOver (compact_store profile) s t) (rs : List Record) (h : Represents (compact_store profile) s rs) where
  abbrev pub drawn : List DrawnCell
  drawn = cells_drawn elements_at (reverse rs)

  names_stand : TableRepresents cell_names t.names (reverse rs)
  names_stand = subst (λ n. TableRepresents cell_names n (reverse rs)) (sym over.names) h.names

  strings_stand : TableRepresents text_strings t.strings (reverse rs)
  strings_stand = subst (λ n. TableRepresents text_strings n (reverse rs)) (sym over.strings) h.strings

  -- what was taken may represent what the records draw
  pub holds : HoldCells (compact_store profile) t.cells.items drawn
  holds = subst (λ (cs : List Compact). HoldCells (compact_store profile) cs drawn) (sym over.cells) h.cells

  -- END refuses it as it refuses the records
  pub ended_as : end_reason t.names.named t.strings.named t.limits drawn ≡ end_refusal s.limits rs
  ended_as =
      end_same t.names.named (named cell_names (reverse rs)) t.strings.named (named text_strings (reverse rs)) names_stand.agrees strings_stand.agrees t.limits drawn
      ∙ ap (λ (l : Limits). end_refusal l rs) over.limits

  -- it means what the records mean
  means_as : (unit : Ratio) → meaning_by t.names.named t.strings.named unit drawn ≡ records_mean unit rs
  means_as unit = meaning_same t.names.named (named cell_names (reverse rs)) t.strings.named (named text_strings (reverse rs)) names_stand.agrees strings_stand.agrees unit drawn

  pub accepted : end_reason t.names.named t.strings.named t.limits drawn ≡ None → end_refusal s.limits rs ≡ None
  accepted none = sym ended_as ∙ none

  pub refused : (why : Why) → (why ≡ Memory) ⊎ (end_reason t.names.named t.strings.named t.limits drawn ≡ Some why) → (why ≡ Memory) ⊎ (end_refusal s.limits rs ≡ Some why)
  refused why (inl m) = inl m
  refused why (inr some) = inr (sym ended_as ∙ some)

  -- what it means
  pub means : (l : Contents) → IsLayoutOf profile t.limits (meaning_by t.names.named t.strings.named t.unit drawn) l → IsLayoutOf profile s.limits (records_mean s.unit rs) l
  means l is =
      let mean : meaning_by t.names.named t.strings.named t.unit drawn ≡ records_mean s.unit rs = ap (λ (u : Ratio). meaning_by t.names.named t.strings.named u drawn) over.unit ∙ means_as s.unit in
      subst (λ (p : Limits × Meaning). IsLayoutOf profile p.0 p.1 l) (λ i. (over.limits i, mean i)) is

-- ---- a layout is made of what was taken

-- none of END's reasons holds
none_holds : (a b c : Bool) → first_of ((a, UnknownReference) ∷ (b, DuplicateCell) ∷ (c, TooHeavy) ∷ []) ≡ None → (b ≡ false) × (c ≡ false)
none_holds true b c h = cc
none_holds false true c h = cc
none_holds false false true h = cc
none_holds false false false h = (refl, refl)

-- no two cells have one name
pub once : (names strings : List (ℕ × List ℕ)) (limits : Limits) (ds : List DrawnCell) → end_reason names strings limits ds ≡ None → has_twice (keys_of (cells_by_name names strings ds)) ≡ false
once names strings limits ds ends =
    (none_holds (lacks_name names strings ds) (has_twice (keys_of (cells_by_name names strings ds))) (nat_lt limits.weight (cells_weight (cells_by_name names strings ds))) ends).0

no_more : (most n : ℕ) → nat_lt most n ≡ false → n ≤ most
no_more most n h = grind (arith, nat_tests)

module _ (names strings : List (ℕ × List ℕ)) where
  -- no more elements are meant than are drawn
  few_with : (o : Option Element) (es : List Element) → length (with_element o es) ≤ 1 + length es
  few_with None es = omega arith
  few_with (Some e) es = omega arith

  few_meant : (ds : List Drawn) → length (elements_by_name names strings ds) ≤ length ds
  few_meant [] = omega arith
  few_meant (d ∷ ds) = omega (arith, few_with (element_by names strings d) (elements_by_name names strings ds), few_meant ds)

  few_and : (o : Option (List ℕ)) (es : List Element) (cs : List (List ℕ × List Element)) → element_count (with_named o es cs) ≤ length es + element_count cs
  few_and None es cs = omega arith
  few_and (Some name) es cs = omega arith

  few_in_all : (profile : Profile) (cs : List Compact) (ds : List DrawnCell) → HoldCells (compact_store profile) cs ds → element_count (cells_by_name names strings ds) ≤ total_count (compact_store profile) cs
  few_in_all profile [] [] h = omega arith
  few_in_all profile [] (d ∷ ds) h = absurd h
  few_in_all profile (c ∷ cs) [] h = absurd h
  few_in_all profile (c ∷ cs) (d ∷ ds) h =
      omega (
        arith,
        few_and (cell_by names d.0) (elements_by_name names strings d.1) (cells_by_name names strings ds),
        few_meant d.1,
        h.1.count,
        few_in_all profile cs ds h.2,
      )

-- what may have been drawn
record SomeDrawn (profile : Profile) (cs : List Compact) : Type 0 where
  pub cells : List DrawnCell
  pub holds : HoldCells (compact_store profile) cs cells

some_drawn : (profile : Profile) (cs : List Compact) → AllByRecursion (IsCompact profile) cs → SomeDrawn profile cs
some_drawn profile [] a = record { cells = []; holds = tt }
some_drawn profile (c ∷ cs) a = let s = some_drawn profile cs a.1 in record { cells = (c.cell, a.0.drawn) ∷ s.cells; holds = (refl, a.0.keeps, s.holds) }

module _ (profile : Profile) (names strings : List (ℕ × List ℕ)) (limits : Limits) (unit : Ratio) (cs : List Compact) (rs : List (List ℕ × List Entry)) (fits : IsUnit unit)
    (sound : AllByRecursion (IsCompact profile) cs) (few : total_count (compact_store profile) cs ≤ limits.elements)
    (ends : (ds : List DrawnCell) → HoldCells (compact_store profile) cs ds → end_reason names strings limits ds ≡ None) (runs : AreRunsOf profile names strings cs rs) where
  abbrev cells_of : List DrawnCell → List Cell
  cells_of ds = counted_cells profile (cells_by_name names strings ds)

  can : (ds : List DrawnCell) → HoldCells (compact_store profile) cs ds → CanBeHeld profile limits (meaning_by names strings unit ds)
  can ds h =
      let none = none_holds (lacks_name names strings ds) (has_twice (keys_of (cells_by_name names strings ds))) (nat_lt limits.weight (cells_weight (cells_by_name names strings ds))) (ends ds h) in
      record {
        unit = fits;
        named = names-keyed IsName (cells_of ds) (subst AreNamed (runs.runs ds h) runs.named);
        sound = runs.sound ds h;
        once = none.0;
        few = omega (arith, few_in_all names strings profile cs ds h, few);
        light = no_more limits.weight (cells_weight (cells_by_name names strings ds)) none.1;
      }

  pub held : HeldCells rs
  held = let s = some_drawn profile cs sound in (cells_of s.cells, are_sound profile (cells_by_name names strings s.cells) (runs.sound s.cells s.holds), runs.runs s.cells s.holds)

  module _ {by : Profile} (kept_by : by ≡ profile) where
    pub layout : (h : HeldCells rs) → IsLayout (contents_of unit limits by (cells_held h))
    layout h =
        let s = some_drawn profile cs sound in
        let is : cells_held h ≡ cells_of s.cells = cells_are h (cells_of s.cells) (are_sound profile (cells_by_name names strings s.cells) (runs.sound s.cells s.holds)) (runs.runs s.cells s.holds) in
        let made : contents_of unit limits by (cells_held h) ≡ contents_of unit limits profile (cells_of s.cells) = λ i. contents_of unit limits (kept_by i) (is i) in
        subst IsLayout (sym made) (is_layout_of profile limits (meaning_by names strings unit s.cells) (can s.cells s.holds)).layout

    pub made_of : (l : Contents) → ((es : List Cell) → AreSoundCells es → rs ≡ keyed_cells es → l ≡ contents_of unit limits by es) → (ds : List DrawnCell) → HoldCells (compact_store profile) cs ds
        → IsLayoutOf profile limits (meaning_by names strings unit ds) l
    made_of l made ds h =
        let is : l ≡ contents_of unit limits profile (cells_of ds) =
        made (cells_of ds) (are_sound profile (cells_by_name names strings ds) (runs.sound ds h)) (runs.runs ds h) ∙ ap (λ (p : Profile). contents_of unit limits p (cells_of ds)) kept_by in
        subst (IsLayoutOf profile limits (meaning_by names strings unit ds)) (sym is) (is_layout_of profile limits (meaning_by names strings unit ds) (can ds h))
