use Rattle.std.proofs.Common.{ℕ, ◌+◌, ◌∷◌, drop, sym, ◌∙◌, ap, subst, add-one}
use Rattle.oas_reader.proofs.Twice.{drop_one}
use Rattle.oas_reader.proofs.WeighLemmas.{Weighed, weighed_none, weighed_more}
use Rattle.oas_reader.proofs.accepting.all_weight.Goals as goal

pub loop-cell-init : goal.loop-cell-init
loop-cell-init g c = λ ds h. weighed_none g.S.CellStore.store c.args.names.now.named c.args.strings.now.named c.args.cells.now ds h

pub loop-cell-preserved : goal.loop-cell-preserved
loop-cell-preserved g c =
    let t = g.S.CellStore.store in
    let rest = drop_one c.args.cells.now c.loop-cell.cell-index c.cell-item.result c.loop-cell-test.true c.cell-item.is
    ∙ ap (λ (k : ℕ). c.cell-item.result ∷ drop k c.args.cells.now) (sym (add-one c.loop-cell.cell-index)) in
    λ ds h. weighed_more t c.args.names.now.named c.args.strings.now.named c.loop-cell.weight c.in_ok-weight_with.field-0 c.saturating_add-weight.result c.cell-item.result
    (drop (c.loop-cell.cell-index + 1) c.args.cells.now) ds
    (subst (λ ss. Weighed t c.args.names.now.named c.args.strings.now.named c.loop-cell.weight ss ds) rest (c.loop-cell.invariant ds h))
    c.in_ok-weight_with.ensures c.saturating_add-weight.ensures
