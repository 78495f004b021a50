use Rattle.std.proofs.Common.{flat_map, ap}
use Rattle.std.proofs.lemmas.Result.{err_from_is_err_and}
use Rattle.oas_num.proofs.PuttingLemmas.{fails_at, ◌▸◌}
use Rattle.oas_difference.specs.Held.{held_by}
use Rattle.oas_diff_text.proofs.EntryLemmas.{left_is}
use Rattle.oas_difference.proofs.cells.put_cells.Goals as goal

pub loop-pair-preserved : goal.loop-pair-preserved
loop-pair-preserved g c = record {
  put = left_is c.loop-pair.invariant.put (ap (flat_map (held_by c.args.detail c.args.notation.now)) c.in-Some.ensures.pair) ▸ c.in_ok-put_cell_by.ensures;
  before = c.next_cell.ensures.before;
  after = c.next_cell.ensures.after;
}

pub returns-in_err-put_cell_by : goal.returns-in_err-put_cell_by
returns-in_err-put_cell_by g c =
    let p = err_from_is_err_and c.from_residual.result c.from_residual.ensures.1 in
    rw p.1 (fails_at _ (left_is c.loop-pair.invariant.put (ap (flat_map (held_by c.args.detail c.args.notation.now)) c.in-Some.ensures.pair)) c.in_err-put_cell_by.ensures)
