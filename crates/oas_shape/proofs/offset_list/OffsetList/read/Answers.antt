use Rattle.std.proofs.Common.{◌+◌, sym, arith}
use Rattle.std.proofs.lemmas.Result.{err_from_is_err_and}
use Rattle.oas_shape.specs.Laws.RepetitionLaws.{offsets_are}
use Rattle.oas_shape.proofs.OffsetLemmas.{summing_more, summed_all, summed_more, summed_fails, summed_past, summed_no_memory}
use Rattle.oas_shape.proofs.offset_list.OffsetList.read.Goals as goal

pub returns-in_err-by : goal.returns-in_err-by
returns-in_err-by g c =
    let p = err_from_is_err_and c.from_residual.result c.from_residual.ensures.1 in
    rw (p.1, p.2) (summed_fails c.loop-items.invariant.summed _ (omega (arith, c.loop-items.invariant.left_is)) c.in_err-by.ensures)

pub returns-in_default : goal.returns-in_default
returns-in_default g c = summed_past c.loop-items.invariant.summed _ (omega (arith, c.loop-items.invariant.left_is)) c.in_ok-by.ensures c.in_default.ensures

pub returns-in_err-push : goal.returns-in_err-push
returns-in_err-push g c =
    let p = err_from_is_err_and c.from_residual-in_err-push.result c.from_residual-in_err-push.ensures.1 in
    rw (p.1, p.2) (summed_no_memory c.loop-items.invariant.summed _ (omega (arith, c.loop-items.invariant.left_is)) c.in_ok-by.ensures c.in-Some.ensures.0)

pub returns-in_err-push-2 : goal.returns-in_err-push-2
returns-in_err-push-2 g c =
    let p = err_from_is_err_and c.from_residual-in_err-push-2.result c.from_residual-in_err-push-2.ensures.1 in
    rw (p.1, p.2) (summed_no_memory c.loop-items.invariant.summed _ (omega (arith, c.loop-items.invariant.left_is)) c.in_ok-by.ensures c.in-Some.ensures.0)

pub returns-then-left-eq0 : goal.returns-then-left-eq0
returns-then-left-eq0 g c =
    rw (c.in_ok-push-2.ensures.items, c.in_ok-push.ensures.items)
    (summed_all (summed_more c.loop-items.invariant.summed c.in_ok-by.ensures c.in-Some.ensures.0 (sym c.in-Some.ensures.1)) _
    (omega (arith, c.loop-items.invariant.left_is)))

pub loop-items-preserved : goal.loop-items-preserved
loop-items-preserved g c =
    rw c.in_ok-push.ensures.items (summing_more c.loop-items.invariant c.if-left-eq0.false c.in_ok-by.ensures c.in-Some.ensures.0 (sym c.in-Some.ensures.1))

pub invariant_of-result : goal.invariant_of-result
invariant_of-result g c =
    let read = summed_all (summed_more c.loop-items.invariant.summed c.in_ok-by.ensures c.in-Some.ensures.0 (sym c.in-Some.ensures.1))
    (c.args.more + 1) (omega (arith, c.loop-items.invariant.left_is)) in
    rw (c.in_ok-push-2.ensures.items, c.in_ok-push.ensures.items) (offsets_are _ _ _ _ _ read.spelled)
