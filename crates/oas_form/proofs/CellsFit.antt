-- What a file in the shortest style spells are names, strings and numbers of 64 bits.
use Rattle.std.proofs.Common.{◌≡◌, ℕ, false, List, ◌∷◌, ◌++◌, map, subst, []}
use Rattle.std.specs.List.{AllByRecursion}
use Rattle.oas_num.specs.Grammar.{IsSuch, IsEach}
use Rattle.oas_num.specs.Style.{Shortest}
use Rattle.oas_num.specs.Texts.{IsName}
use Rattle.oas_record.specs.declared.records.Record.{Record}
use Rattle.oas_record.specs.declared.records.Record.TheVariants as record_of
use Rattle.oas_record.specs.declared.references.CellRef.{CellRef}
use Rattle.oas_record.specs.declared.references.CellRef.TheVariants as cell
use Rattle.oas_record.specs.References.{cell_in}
use Rattle.oas_record.specs.Records.{record_in, IsInner}
use Rattle.oas_elements.specs.declared.element.Element.{Element}
use Rattle.oas_form.specs.Records.{Cells, element_record, records_of}
use Rattle.oas_elements.specs.Sound.{Fits}
use Rattle.oas_form.proofs.FieldsFit.{named_fits}
use Rattle.oas_form.proofs.AllKinds.{of_element}

cell_name_fits : (name bytes : List ℕ) → record_in Shortest false (record_of.Cell (cell.Name name)) bytes → IsName name
cell_name_fits name bytes h =
    let s = h.parts.second in
    let e : s.from ≡ cell.Name name = cc (s.is) in
    named_fits false name h.parts.back (subst (λ (c : CellRef). cell_in Shortest false c h.parts.back) e s.spelled)

abbrev AreSpelled : List Record → List ℕ → Type 0
AreSpelled rs bytes = IsEach (IsSuch IsInner (record_in Shortest false)) rs bytes

-- of elements and what follows them
elements_fit : (es : List Element) (rs : List Record) (bytes : List ℕ) → AreSpelled (map element_record es ++ rs) bytes → AllByRecursion Fits es × ((rest : List ℕ) × AreSpelled rs rest)
elements_fit [] rs bytes h = (tt, (bytes, h))
elements_fit (e ∷ es) rs bytes h = let more = elements_fit es rs h.1 h.3 in (((of_element e).fits h.0 h.2.spelled, more.0), more.1)

pub cells_fit : (cs : Cells) (bytes : List ℕ) → AreSpelled (records_of cs) bytes → AllByRecursion (λ c. IsName c.0) cs × AllByRecursion (λ c. AllByRecursion Fits c.1) cs
cells_fit [] bytes h = (tt, tt)
cells_fit (c ∷ cs) bytes h =
    let s = elements_fit c.1 (records_of cs) h.1 h.3 in
    let more = cells_fit cs s.1.0 s.1.1 in
    ((cell_name_fits c.0 h.0 h.2.spelled, more.0), (s.0, more.1))
