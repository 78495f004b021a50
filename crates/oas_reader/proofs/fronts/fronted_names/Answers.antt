use Rattle.std.proofs.Common.{rules, ◌≡◌, ℕ, ◌+◌, ◌∷◌, ◌++◌, List, [], None, Some, take, sym, ◌∙◌, ap, subst, add-one}
use Rattle.std.specs.Prelude.{map}
use Rattle.oas_record.specs.declared.references.CellRef.{CellRef}
use Rattle.oas_reader.specs.References.{cell_by}
use Rattle.oas_reader.specs.Meaning.{names_meant}
use Rattle.oas_reader.proofs.Twice.{one_cell, names_none, names_some}
use Rattle.oas_reader.proofs.InOrder.{Fronted, fronted, fronted_last}
use Rattle.oas_reader.proofs.fronts.fronted_names.Goals as goal
use Rattle.oas_reader.proofs.fronts.fronted_names.Goals.{in-Some+in_ok-push, in_default}

pub loop-cell-preserved : goal.loop-cell-preserved
loop-cell-preserved g c =
    let t = g.S.CellStore.store in
    let names = c.args.names.now.named in
    let before = map t.cell (take c.loop-cell.cell-index c.args.cells.now) in
    let cut : map t.cell (take (c.loop-cell.cell-index + 1) c.args.cells.now) ≡ before ++ t.cell c.cell-item.result ∷ [] =
    ap (λ (k : ℕ). map t.cell (take k c.args.cells.now)) (add-one c.loop-cell.cell-index)
    ∙ one_cell t.cell c.args.cells.now c.loop-cell.cell-index c.cell-item.result c.loop-cell-test.true c.cell-item.is in
    subst (λ (hs : List CellRef). map fronted c.match-cell_meant.all.items ≡ names_meant names hs) (sym cut) (
    elim c.match-cell_meant.branch [
      | in-Some+in_ok-push w ↦
          let named : cell_by names (t.cell c.cell-item.result) ≡ Some w.in-Some.name.now = ap (cell_by names) (sym c.cell.ensures) ∙ sym w.in-Some.ensures in
          let more : map fronted w.push.new.self.items ≡ map fronted c.loop-cell.all.items ++ w.in-Some.name.now ∷ [] =
          ap (λ (xs : List Fronted). map fronted xs) w.in_ok-push.ensures.items ∙ fronted_last c.loop-cell.all.items (w.front_of.result, w.in-Some.name) in
          subst (λ (v : _). map fronted v.items ≡ names_meant names (before ++ t.cell c.cell-item.result ∷ [])) (sym w.all-is)
          (more ∙ ap (λ (ns : List (List ℕ)). ns ++ w.in-Some.name.now ∷ []) c.loop-cell.invariant ∙ sym (names_some names before [] (t.cell c.cell-item.result) w.in-Some.name.now named))
      | in_default w ↦
          let named : cell_by names (t.cell c.cell-item.result) ≡ None = search rules in
          subst (λ (v : _). map fronted v.items ≡ names_meant names (before ++ t.cell c.cell-item.result ∷ [])) (sym w.all-is)
          (c.loop-cell.invariant ∙ sym (names_none names before (t.cell c.cell-item.result) named))
    ]
    )
