-- The meaning of the records of cells.
use Rattle.std.proofs.Common.{◌≡◌, ℕ, false, List, ◌∷◌, ◌++◌, map, reverse, Option, refl, sym, ap, ◌∙◌, append_assoc, []}
use Rattle.std.proofs.lemmas.List.{reverse-append, append-nil}
use Rattle.std.specs.Option.{option_to_list}
use Rattle.std.specs.List.{AllByRecursion}
use Rattle.oas_shape.specs.Steps.{still}
use Rattle.oas_record.specs.declared.records.Record.{Record}
use Rattle.oas_record.specs.declared.records.Record.TheVariants as record_of
use Rattle.oas_record.specs.declared.references.CellRef.TheVariants as cell
use Rattle.oas_elements.specs.declared.element.Element.{Element}
use Rattle.oas_elements.specs.declared.element.Element.TheVariants.{Placement}
use Rattle.oas_elements.specs.Weight.{lacks_points}
use Rattle.oas_file.specs.Drawn.{Drawn}
use Rattle.oas_file.specs.Drawn.TheVariants.{Named}
use Rattle.oas_file.specs.Values.{is_relative}
use Rattle.oas_file.specs.Modal.{ModalState, modal_of, stepped}
use Rattle.oas_file.specs.Drawing.{offsets_of, copies_at, elements_at}
use Rattle.oas_file.proofs.Steps.{modal_step}
use Rattle.oas_file.specs.Names.{named, cell_names, text_strings}
use Rattle.oas_file.specs.Meaning.{DrawnCell, elements_by_name, cells_by_name, in_last, cells_drawn}
use Rattle.oas_form.specs.Records.{Cells, element_record, records_of}
use Rattle.oas_form.specs.RecordMeaning.{HavePoints, RecordsSplit, CanonicalMeans}
use Rattle.oas_form.proofs.AllKinds.{of_element}

-- ---- lists of records

pub records_split : RecordsSplit
records_split [] ds = refl
records_split (c ∷ cs) ds =
    ap (λ (rs : List Record). record_of.Cell (cell.Name c.0) ∷ rs)
    (ap (λ (rs : List Record). map element_record c.1 ++ rs) (records_split cs ds) ∙ sym (append_assoc (map element_record c.1) (records_of cs) (records_of ds)))

-- newest first: these records, after those
abbrev pub onto : List Record → List Record → List Record
onto [] before = before
onto (r ∷ rs) before = onto rs (r ∷ before)

pub onto-append : (rs ss before : List Record) → onto (rs ++ ss) before ≡ onto ss (onto rs before)
onto-append [] ss before = refl
onto-append (r ∷ rs) ss before = onto-append rs ss (r ∷ before)

pub reverse-onto : (rs before : List Record) → reverse rs ++ before ≡ onto rs before
reverse-onto [] before = refl
reverse-onto (r ∷ rs) before = ap (λ (ss : List Record). ss ++ before) (reverse-append (r ∷ []) rs) ∙ append_assoc (reverse rs) (r ∷ []) before ∙ reverse-onto rs (r ∷ before)

pub reverse-is : (rs : List Record) → reverse rs ≡ onto rs []
reverse-is rs = sym (append-nil (reverse rs)) ∙ reverse-onto rs []

-- ---- the vertices of a list

-- ---- what a record draws

-- it has no repetition
pub stands_once : (e : Element) (m : ModalState) → offsets_of m (element_record e) ≡ still ∷ []
stands_once (Placement name x y turns flip) m = refl
stands_once e m = refl

-- coordinates are absolute
abbrev pub IsAbsolute : List Record → Type 0
IsAbsolute before = is_relative before ≡ false

pub draws : (e : Element) (before : List Record) → IsAbsolute before → lacks_points e ≡ false → elements_at (element_record e) before ≡ Named e ∷ []
draws e before absolute h =
    let m : ModalState = stepped (modal_of before) (element_record e) in
    ap (λ (n : ModalState). copies_at n (element_record e) (offsets_of n (element_record e))) (modal_step before (element_record e))
    ∙ ap (copies_at m (element_record e)) (stands_once e m)
    ∙ ap (λ (d : Option Drawn). option_to_list d ++ []) ((of_element e).drawn (modal_of before) absolute h)

-- the mode stays
pub absolute_element : (e : Element) (before : List Record) → is_relative (element_record e ∷ before) ≡ is_relative before
absolute_element (Placement name x y turns flip) before = refl
absolute_element e before = refl

-- ---- the cells of the records

-- a cell with what is drawn in it
abbrev pub drawn_cell : List ℕ × List Element → DrawnCell
drawn_cell c = (cell.Name c.0, map Named c.1)

-- one element more, in the last cell
pub drawn_in_last : (e : Element) (before : List Record) → cells_drawn elements_at (element_record e ∷ before) ≡ in_last (elements_at (element_record e) before) (cells_drawn elements_at before)
drawn_in_last (Placement name x y turns flip) before = refl
drawn_in_last e before = refl

in_last-append : (ds : List Drawn) (cs : List DrawnCell) (c : DrawnCell) → in_last ds (cs ++ c ∷ []) ≡ cs ++ (c.0, c.1 ++ ds) ∷ []
in_last-append ds [] c = refl
in_last-append ds (b ∷ []) c = refl
in_last-append ds (b ∷ d ∷ cs) c = ap (λ (xs : List DrawnCell). b ∷ xs) (in_last-append ds (d ∷ cs) c)

-- the elements of a cell, after its CELL
elements_drawn : (es : List Element) (before : List Record) (cs : List DrawnCell) (c : DrawnCell) → IsAbsolute before → AllByRecursion (λ e. lacks_points e ≡ false) es →
    cells_drawn elements_at before ≡ cs ++ c ∷ []
    → cells_drawn elements_at (onto (map element_record es) before) ≡ cs ++ (c.0, c.1 ++ map Named es) ∷ []
elements_drawn [] before cs c absolute h is = is ∙ ap (λ (ds : List Drawn). cs ++ (c.0, ds) ∷ []) (sym (append-nil c.1))
elements_drawn (e ∷ es) before cs c absolute h is =
    let more : cells_drawn elements_at (element_record e ∷ before) ≡ cs ++ (c.0, c.1 ++ Named e ∷ []) ∷ [] =
    drawn_in_last e before ∙ (λ i. in_last (draws e before absolute h.0 i) (is i)) ∙ in_last-append (Named e ∷ []) cs c in
    elements_drawn es (element_record e ∷ before) cs (c.0, c.1 ++ Named e ∷ []) (absolute_element e before ∙ absolute) h.1 more
    ∙ ap (λ (ds : List Drawn). cs ++ (c.0, ds) ∷ []) (append_assoc c.1 (Named e ∷ []) (map Named es))

-- cell by cell
pub cells_again : (cs : Cells) (before : List Record) → HavePoints cs → cells_drawn elements_at (onto (records_of cs) before) ≡ cells_drawn elements_at before ++ map drawn_cell cs
cells_again [] before h = sym (append-nil (cells_drawn elements_at before))
cells_again (c ∷ cs) before h =
    let opened : List Record = record_of.Cell (cell.Name c.0) ∷ before in
    ap (λ (rs : List Record). cells_drawn elements_at rs) (onto-append (map element_record c.1) (records_of cs) opened)
    ∙ cells_again cs (onto (map element_record c.1) opened) h.1
    ∙ ap (λ (ds : List DrawnCell). ds ++ map drawn_cell cs) (elements_drawn c.1 opened (cells_drawn elements_at before) (cell.Name c.0, []) refl h.0 refl)
    ∙ append_assoc (cells_drawn elements_at before) (drawn_cell c ∷ []) (map drawn_cell cs)

-- ---- their meaning

elements_named : (names strings : List (ℕ × List ℕ)) (es : List Element) → elements_by_name names strings (map Named es) ≡ es
elements_named names strings [] = refl
elements_named names strings (e ∷ es) = ap (λ (fs : List Element). e ∷ fs) (elements_named names strings es)

pub cells_named : (names strings : List (ℕ × List ℕ)) (cs : Cells) → cells_by_name names strings (map drawn_cell cs) ≡ cs
cells_named names strings [] = refl
cells_named names strings (c ∷ cs) = λ i. (c.0, elements_named names strings c.1 i) ∷ cells_named names strings cs i

pub drawn_again : (cs : Cells) → HavePoints cs → cells_drawn elements_at (reverse (records_of cs)) ≡ map drawn_cell cs
drawn_again cs h = ap (λ (rs : List Record). cells_drawn elements_at rs) (reverse-is (records_of cs)) ∙ cells_again cs [] h

pub canonical_means : CanonicalMeans
canonical_means unit cs h = ap (λ (ds : Cells). record { unit = unit; cells = ds })
    (ap (λ (ds : List DrawnCell). cells_by_name (named cell_names (reverse (records_of cs))) (named text_strings (reverse (records_of cs))) ds) (drawn_again cs h) ∙ cells_named _ _ cs)
