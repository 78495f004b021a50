use Rattle.std.proofs.Common.{arith}
use Rattle.std.proofs.lemmas.Result.{err_from_is_err_and}
use Rattle.oas_writing.proofs.ElementLemmas.{copies_short, copy_fails, copy_put, copy_within}
use Rattle.oas_writing.proofs.copies.put_one_by_one.Goals as goal

pub returns-in_err-count : goal.returns-in_err-count
returns-in_err-count g c =
    let p = err_from_is_err_and c.from_residual.result c.from_residual.ensures.1 in
    rw p.1 (copy_fails c.args.element.now c.args.times c.loop.counter c.loop-test.true c.loop.invariant c.in_err-count.ensures)

pub overflow_add-count : goal.overflow_add-count
overflow_add-count g c =
    omega (
      arith,
      copies_short c.args.element.now c.args.times c.requires.sound c.requires.light,
      copy_within c.args.element.now c.args.times c.loop.counter c.loop-test.true c.loop.invariant c.in_ok-count.ensures.count_is,
    )

pub loop-preserved : goal.loop-preserved
loop-preserved g c = copy_put c.args.element.now c.args.times c.loop.counter c.loop-test.true c.loop.invariant c.in_ok-count.ensures
