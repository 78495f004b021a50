use Rattle.std.proofs.Common.{arith}
use Rattle.std.proofs.lemmas.Result.{err_from_is_err_and}
use Rattle.oas_writing.proofs.PointLemmas.{steps_begin, across_passes, up_passes, step_fails, count_fits, step_put, steps_end}
use Rattle.oas_writing.proofs.points.put_steps.Goals as goal

pub loop-dx-init : goal.loop-dx-init
loop-dx-init g c = λ first all h. steps_begin g.K.Sink.given g.K.Sink.failures first all c.args.steps c.args.sink.now h

pub next-requires : goal.next-requires
next-requires g c =
    let r = c.requires in
    let h = c.loop-dx.invariant r.0 r.1 r.2 in
    (h.before, h.left, h.has)

pub put_delta-requires-clause-dx : goal.put_delta-requires-clause-dx
put_delta-requires-clause-dx g c =
    let r = c.requires in
    let h = c.loop-dx.invariant r.0 r.1 r.2 in
    across_passes h c.in-Some.dx c.in-Some.dy (c.in-Some.ensures.next h.before h.left h.has)

pub put_delta-requires-clause-dy : goal.put_delta-requires-clause-dy
put_delta-requires-clause-dy g c =
    let r = c.requires in
    let h = c.loop-dx.invariant r.0 r.1 r.2 in
    up_passes h c.in-Some.dx c.in-Some.dy (c.in-Some.ensures.next h.before h.left h.has)

pub returns-in_err-count-clause-counts : goal.returns-in_err-count-clause-counts
returns-in_err-count-clause-counts g c first all has =
    let p = err_from_is_err_and c.from_residual.result c.from_residual.ensures.1 in
    let h = c.loop-dx.invariant first all has in
    rw p.1 (step_fails h c.in-Some.dx c.in-Some.dy (c.in-Some.ensures.next h.before h.left h.has) c.in_err-count.ensures.counts)

pub overflow_add-count : goal.overflow_add-count
overflow_add-count g c =
    let r = c.requires in
    let h = c.loop-dx.invariant r.0 r.1 r.2 in
    omega (arith, r.3, count_fits h c.in-Some.dx c.in-Some.dy (c.in-Some.ensures.next h.before h.left h.has) c.in_ok-count.ensures.short)

pub loop-dx-preserved : goal.loop-dx-preserved
loop-dx-preserved g c = λ first all has.
    let h = c.loop-dx.invariant first all has in
    step_put h c.in-Some.dx c.in-Some.dy (c.in-Some.ensures.next h.before h.left h.has) c.in_ok-count.ensures.counts c.in_ok-count.ensures.short

pub returns-clause-counts : goal.returns-clause-counts
returns-clause-counts g c first all has = let h = c.loop-dx.invariant first all has in steps_end c.next.new.self h (c.in_default.ensures.next h.before h.left h.has)

pub returns-clause-short : goal.returns-clause-short
returns-clause-short g c first all has = omega (arith, (c.loop-dx.invariant first all has).short)
