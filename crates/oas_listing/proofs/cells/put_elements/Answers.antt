use Rattle.std.proofs.Common.{◌≡◌, rules}
use Rattle.std.proofs.lemmas.Result.{err_from_is_err_and}
use Rattle.oas_listing.proofs.CellLemmas.{copies_put, copies_fail}
use Rattle.oas_listing.proofs.CellLemmas.{elements_begin, elements_on, elements_end}
use Rattle.oas_listing.proofs.cells.put_elements.Goals as goal

pub loop-element-init : goal.loop-element-init
loop-element-init g c =
    let same : c.into_iter-element-iterator.result ≡ c.args.elements = search rules in
    elements_begin c.args.elements c.into_iter-element-iterator.result _ same

pub returns-in_err-put_copies : goal.returns-in_err-put_copies
returns-in_err-put_copies g c =
    let p = err_from_is_err_and c.from_residual.result c.from_residual.ensures.1 in
    rw p.1 (copies_fail _ c.in-Some.times c.next.new.self (elements_on c.args.elements _ _ _ c.in-Some.ensures.steps c.loop-element.invariant) c.in_err-put_copies.ensures)

pub loop-element-preserved : goal.loop-element-preserved
loop-element-preserved g c =
    copies_put _ c.in-Some.times c.next.new.self (elements_on c.args.elements _ _ _ c.in-Some.ensures.steps c.loop-element.invariant) c.in_ok-put_copies.ensures

pub returns : goal.returns
returns g c = elements_end c.args.elements _ c.loop-element.invariant c.in-None.ensures.steps.0
