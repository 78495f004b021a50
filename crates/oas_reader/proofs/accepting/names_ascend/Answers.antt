use Rattle.std.proofs.Common.{rules, ◌≡◌, ℕ, ◌+◌, ◌∷◌, ◌++◌, List, [], true, None, Some, take, sym, ◌∙◌, ap, subst, add-one}
use Rattle.std.specs.Prelude.{map}
use Rattle.std.specs.Option.{option_copied}
use Rattle.oas_record.specs.declared.references.CellRef.{CellRef}
use Rattle.oas_reader.specs.References.{cell_by}
use Rattle.oas_reader.specs.Meaning.{names_meant}
use Rattle.oas_reader.proofs.Twice.{one_cell}
use Rattle.oas_reader.proofs.Ascending.{Ascending, over_by, ascending_none, ascending_some}
use Rattle.oas_reader.proofs.accepting.names_ascend.Goals as goal
use Rattle.oas_reader.proofs.accepting.names_ascend.Goals.{in-Some+else-not-is_above, in_default}

pub loop-cell-preserved : goal.loop-cell-preserved
loop-cell-preserved g c =
    let t = g.S.CellStore.store in
    let names = c.args.names.now.named in
    let last = option_copied c.loop-cell.last in
    let before = map t.cell (take c.loop-cell.cell-index c.args.cells.now) in
    let cut : map t.cell (take (c.loop-cell.cell-index + 1) c.args.cells.now) ≡ before ++ t.cell c.cell-item.result ∷ [] =
    ap (λ (k : ℕ). map t.cell (take k c.args.cells.now)) (add-one c.loop-cell.cell-index)
    ∙ one_cell t.cell c.args.cells.now c.loop-cell.cell-index c.cell-item.result c.loop-cell-test.true c.cell-item.is in
    subst (λ (hs : List CellRef). Ascending (option_copied c.match-cell_meant.last) (names_meant names hs)) (sym cut) (
    elim c.match-cell_meant.branch [
      | in-Some+else-not-is_above w ↦
          let named : cell_by names (t.cell c.cell-item.result) ≡ Some w.in-Some.name.now = ap (cell_by names) (sym c.cell.ensures) ∙ sym w.in-Some.ensures in
          let is : w.is_above.result ≡ true = search rules in
          let over = over_by last w.in-Some.name.now (λ l e. w.is_above.ensures l is e) in
          subst (λ o. Ascending (option_copied o) (names_meant names (before ++ t.cell c.cell-item.result ∷ []))) (sym w.last-is)
          (ascending_some names last before (t.cell c.cell-item.result) w.in-Some.name.now named over c.loop-cell.invariant)
      | in_default w ↦
          let named : cell_by names (t.cell c.cell-item.result) ≡ None = search rules in
          subst (λ o. Ascending (option_copied o) (names_meant names (before ++ t.cell c.cell-item.result ∷ []))) (sym w.last-is)
          (ascending_none names last before (t.cell c.cell-item.result) named c.loop-cell.invariant)
    ]
    )
