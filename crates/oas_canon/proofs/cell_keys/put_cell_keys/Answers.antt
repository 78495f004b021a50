use Rattle.std.proofs.Common.{◌≡◌, rules}
use Rattle.std.proofs.lemmas.Result.{err_from_is_err_and}
use Rattle.oas_canon.proofs.CellKeyLemmas.{lines_begin, line_fails, line_put, lines_end, lines_short}
use Rattle.oas_canon.proofs.cell_keys.put_cell_keys.Goals as goal

pub loop-name-init : goal.loop-name-init
loop-name-init g c =
    let same : c.into_iter-name-iterator.result ≡ c.args.layout.now.cells = search rules in
    lines_begin g.K.Sink.given g.K.Sink.failures c.args.layout.now c.into_iter-name-iterator.result c.args.sink.now same

pub returns-in_err-put_line-clause-writes : goal.returns-in_err-put_line-clause-writes
returns-in_err-put_line-clause-writes g c =
    let p = err_from_is_err_and c.from_residual.result c.from_residual.ensures.1 in
    rw p.1 (line_fails c.args.layout.now _ _ _ c.in-Some.ensures.steps c.loop-name.invariant (rw (c.unit-unit.ensures, c.as_bytes.ensures.bytes) at c.in_err-put_line.ensures))

pub loop-name-preserved : goal.loop-name-preserved
loop-name-preserved g c = line_put c.args.layout.now _ _ _ c.in-Some.ensures.steps c.loop-name.invariant (rw (c.unit-unit.ensures, c.as_bytes.ensures.bytes) at c.in_ok-put_line.ensures)

pub returns-clause-writes : goal.returns-clause-writes
returns-clause-writes g c = lines_end g.K.Sink.given g.K.Sink.failures c.args.layout.now _ c.loop-name.invariant c.in-None.ensures.steps.0

pub returns-in_err-put_line-clause-short : goal.returns-in_err-put_line-clause-short
returns-in_err-put_line-clause-short g c = lines_short c.args.layout.now c.cells-name-items.ensures.layout

pub returns-clause-short : goal.returns-clause-short
returns-clause-short g c = lines_short c.args.layout.now c.cells-name-items.ensures.layout
