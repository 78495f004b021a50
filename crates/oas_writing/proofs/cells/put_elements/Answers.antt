use Rattle.std.proofs.Common.{arith}
use Rattle.std.proofs.lemmas.Result.{err_from_is_err_and}
use Rattle.oas_listing.proofs.PuttingLemmas.{so_far_within}
use Rattle.oas_writing.proofs.ElementLemmas.{elements_short, pair_fails, pair_put, pair_within}
use Rattle.oas_writing.proofs.cells.put_elements.Goals as goal

pub returns-in_err-count-clause-counts : goal.returns-in_err-count-clause-counts
returns-in_err-count-clause-counts g c =
    let p = err_from_is_err_and c.from_residual.result c.from_residual.ensures.1 in
    rw p.1 (pair_fails c.args.elements c.loop-element.element-iterator c.next.new.self _ c.in-Some.times c.in-Some.ensures.steps c.loop-element.invariant c.in_err-count.ensures)

pub overflow_add-count : goal.overflow_add-count
overflow_add-count g c =
    omega (
      arith,
      c.fits.ensures.light,
      elements_short c.args.elements c.fits.ensures.sound,
      pair_within c.args.elements c.loop-element.element-iterator c.next.new.self _ c.in-Some.times c.in-Some.ensures.steps c.loop-element.invariant c.in_ok-count.ensures.count_is,
    )

pub loop-element-preserved : goal.loop-element-preserved
loop-element-preserved g c =
    pair_put c.args.elements c.loop-element.element-iterator c.next.new.self _ c.in-Some.times c.in-Some.ensures.steps c.loop-element.invariant c.in_ok-count.ensures

pub returns-clause-short : goal.returns-clause-short
returns-clause-short g c = omega (arith, c.fits.ensures.light, elements_short c.args.elements c.fits.ensures.sound, so_far_within c.loop-element.invariant.so_far)
