use Rattle.std.proofs.Common.{◌≡◌, arith, rules}
use Rattle.std.proofs.lemmas.Result.{err_from_is_err_and}
use Rattle.oas_listing.proofs.PuttingLemmas.{so_far_within}
use Rattle.oas_writing.proofs.CellLemmas.{all_short, cells_begin, cells_end, cell_fails, cell_put, cell_within}
use Rattle.oas_writing.proofs.cells.put_cells.Goals as goal

pub loop-name-init : goal.loop-name-init
loop-name-init g c =
    let same : c.into_iter-name-iterator.result ≡ c.args.cells = search rules in
    cells_begin g.K.Sink.given g.K.Sink.failures c.args.cells c.into_iter-name-iterator.result c.args.sink.now same

pub returns-in_err-count-clause-counts : goal.returns-in_err-count-clause-counts
returns-in_err-count-clause-counts g c =
    let p = err_from_is_err_and c.from_residual.result c.from_residual.ensures.1 in
    rw p.1 (cell_fails c.args.cells _ _ _ c.in-Some.ensures.steps c.loop-name.invariant (rw c.as_bytes.ensures.bytes at c.in_err-count.ensures))

pub overflow_add-count : goal.overflow_add-count
overflow_add-count g c =
    omega (
      arith,
      all_short c.requires.are.0 c.args.cells c.requires.are.1 c.requires.light,
      cell_within c.args.cells _ _ _ c.in-Some.ensures.steps c.loop-name.invariant (rw c.as_bytes.ensures.bytes at c.in_ok-count.ensures.count_is),
    )

pub loop-name-preserved : goal.loop-name-preserved
loop-name-preserved g c = cell_put c.args.cells _ _ _ c.in-Some.ensures.steps c.loop-name.invariant (rw c.as_bytes.ensures.bytes at c.in_ok-count.ensures)

pub returns-clause-counts : goal.returns-clause-counts
returns-clause-counts g c = cells_end g.K.Sink.given g.K.Sink.failures c.args.cells _ c.loop-name.invariant c.in-None.ensures.steps.0

pub returns-clause-short : goal.returns-clause-short
returns-clause-short g c = omega (arith, all_short c.requires.are.0 c.args.cells c.requires.are.1 c.requires.light, so_far_within c.loop-name.invariant)
