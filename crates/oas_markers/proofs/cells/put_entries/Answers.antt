use Rattle.std.proofs.Common.{flat_map, ap}
use Rattle.std.proofs.lemmas.Result.{err_from_is_err_and}
use Rattle.oas_num.proofs.PuttingLemmas.{fails_at, ◌▸◌}
use Rattle.oas_markers.specs.Held.{held_entry}
use Rattle.oas_difference.proofs.EntryLemmas.{left_is}
use Rattle.oas_markers.proofs.cells.put_entries.Goals as goal

pub loop-pair-preserved : goal.loop-pair-preserved
loop-pair-preserved g c = record {
  put = left_is c.loop-pair.invariant.put (ap (flat_map held_entry) c.in-Some.ensures.pair) ▸ c.in_ok-put_cell_entry.ensures;
  before = c.next_cell.ensures.before;
  after = c.next_cell.ensures.after;
}

pub returns-in_err-put_cell_entry : goal.returns-in_err-put_cell_entry
returns-in_err-put_cell_entry g c =
    let p = err_from_is_err_and c.from_residual.result c.from_residual.ensures.1 in
    rw p.1 (fails_at _ (left_is c.loop-pair.invariant.put (ap (flat_map held_entry) c.in-Some.ensures.pair)) c.in_err-put_cell_entry.ensures)
