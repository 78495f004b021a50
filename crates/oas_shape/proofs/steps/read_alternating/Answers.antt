use Rattle.std.proofs.Common.{arith}
use Rattle.std.proofs.lemmas.Result.{err_from_is_err_and}
use Rattle.oas_shape.proofs.StepLemmas.{alternated_none, alternated_more, alternated_all, alternated_fails, alternated_no_memory}
use Rattle.oas_shape.proofs.steps.read_alternating.Goals as goal

pub loop-init : goal.loop-init
loop-init g c = rw c.new-turns.ensures.items (alternated_none _ _)

pub returns-in_err-delta : goal.returns-in_err-delta
returns-in_err-delta g c =
    let p = err_from_is_err_and c.from_residual.result c.from_residual.ensures.1 in
    rw (p.1, p.2) (alternated_fails c.loop.invariant _ (omega arith) c.in_err-delta.ensures)

pub returns-in_err-keep : goal.returns-in_err-keep
returns-in_err-keep g c =
    let p = err_from_is_err_and c.from_residual-in_err-keep.result c.from_residual-in_err-keep.ensures.1 in
    rw (p.1, p.2, c.in_err-keep.ensures.refused) (alternated_no_memory c.loop.invariant _ (omega arith) c.in_ok-delta.ensures)

pub loop-preserved : goal.loop-preserved
loop-preserved g c = rw c.in_ok-keep.ensures.kept (alternated_more c.loop.invariant c.in_ok-delta.ensures c.along.ensures)

pub returns : goal.returns
returns g c = alternated_all c.loop.invariant _ (omega arith)
