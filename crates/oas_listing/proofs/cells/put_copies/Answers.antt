use Rattle.std.proofs.Common.{◌≡◌, ◌<◌, ◌≤◌, replicate, get_or, length, arith}
use Rattle.std.proofs.lemmas.List.{length-replicate, get_or-replicate}
use Rattle.std.proofs.lemmas.Result.{err_from_is_err_and}
use Rattle.oas_listing.specs.Listing.{element_line}
use Rattle.oas_num.proofs.PuttingLemmas.{begins, item_put, item_fails, items_put}
use Rattle.oas_listing.proofs.cells.put_copies.Goals as goal

pub loop-init : goal.loop-init
loop-init g c = begins _ _

pub returns-in_err-put_element : goal.returns-in_err-put_element
returns-in_err-put_element g c =
    let p = err_from_is_err_and c.from_residual.result c.from_residual.ensures.1 in
    let lt : c.loop.counter < length (replicate c.args.times c.args.element.now) = omega (arith, length-replicate c.args.times c.args.element.now, c.loop-test.true) in
    let same : get_or (replicate c.args.times c.args.element.now) c.loop.counter c.args.element.now ≡ c.args.element.now = get_or-replicate c.args.times c.loop.counter c.args.element.now c.args.element.now (omega (arith, c.loop-test.true)) in
    rw p.1 (item_fails element_line (replicate c.args.times c.args.element.now) c.loop.counter c.args.element.now lt c.loop.invariant (rw (same, ← c.show.ensures.element) c.in_err-put_element.ensures))

pub loop-preserved : goal.loop-preserved
loop-preserved g c =
    let lt : c.loop.counter < length (replicate c.args.times c.args.element.now) = omega (arith, length-replicate c.args.times c.args.element.now, c.loop-test.true) in
    let same : get_or (replicate c.args.times c.args.element.now) c.loop.counter c.args.element.now ≡ c.args.element.now = get_or-replicate c.args.times c.loop.counter c.args.element.now c.args.element.now (omega (arith, c.loop-test.true)) in
    item_put element_line (replicate c.args.times c.args.element.now) c.loop.counter c.args.element.now lt c.loop.invariant (rw (same, ← c.show.ensures.element) c.in_ok-put_element.ensures)

pub returns : goal.returns
returns g c =
    let all : length (replicate c.args.times c.args.element.now) ≤ c.loop.counter = omega (arith, length-replicate c.args.times c.args.element.now, c.loop-test.false) in
    items_put element_line (replicate c.args.times c.args.element.now) c.loop.counter all c.loop.invariant
