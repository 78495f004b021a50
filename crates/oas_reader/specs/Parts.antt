-- What a reader keeps, as its state.
use Rattle.std.specs.Prelude.{◌≡◌, ◌≤◌, ◌++◌, Option, is_some, List}
use Rattle.std.specs.List.{AllByRecursion}
use Rattle.std.specs.Option.{option_to_list}
use Rattle.oas_num.specs.declared.refusals.Why.{Why}
use Rattle.oas_record.specs.declared.records.Record.{Record}
use Rattle.oas_reader.specs.declared.parts.Parts.{Parts}
use Rattle.oas_drawing.specs.Positions.{IsNear}
use Rattle.oas_reader.specs.Names.{cell_names, text_strings, same_string, table_reason, with_name}
use Rattle.oas_reader.specs.Meaning.{DrawnCell}
use Rattle.oas_reader.specs.Stores.{Store, total_count, HoldCells}
use Rattle.oas_reader.specs.Standing.{Standing, took, reason, drawn_after}

module _ {S : Type 0} where
  abbrev pub standing : Parts S → Standing
  standing p = record { modal = p.modal; in_cell = is_some p.cell; count = p.count; weight = p.weight }

  -- the stores of all cells, the open one's last
  abbrev pub cells : Parts S → List S
  cells p = p.done.items ++ option_to_list p.cell

  -- why a record is refused
  abbrev pub reason_of : Parts S → Record → Option Why
  reason_of p r =
      reason p.limits (λ r. table_reason same_string p.names (cell_names r)) (λ r. table_reason same_string p.strings (text_strings r)) (standing p) r

  -- the positions, the numbers and what is held are within the limits
  pub record Sound (t : Store S) (p : Parts S) : Type 0 where
    pub placement : IsNear p.modal.placement
    pub text : IsNear p.modal.text
    pub geometry : IsNear p.modal.geometry
    pub few : p.count ≤ p.limits.elements
    pub light : p.weight ≤ p.limits.weight
    pub sound : AllByRecursion t.IsSound (cells p)
    pub total : total_count t (cells p) ≤ p.count

  -- what is for the whole file stays
  pub record SameFile (p q : Parts S) : Type 0 where
    pub unit : q.unit ≡ p.unit
    pub limits : q.limits ≡ p.limits
    pub profile : q.profile ≡ p.profile

  -- q is what is kept after one more record
  pub record Took (t : Store S) (p : Parts S) (r : Record) (q : Parts S) : Type 0 where
    pub file : SameFile p q
    pub standing : standing q ≡ took (standing p) r
    pub names : q.names ≡ with_name p.names (cell_names r)
    pub strings : q.strings ≡ with_name p.strings (text_strings r)
    pub cells : (ds : List DrawnCell) → HoldCells t (cells p) ds → HoldCells t (cells q) (drawn_after ds q.modal r)
