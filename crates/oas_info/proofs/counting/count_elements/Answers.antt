use Rattle.std.proofs.Common.{◌≡◌, rules}
use Rattle.oas_info.proofs.CountingLemmas.{elements_begin, pair_some, pair_room, pair_counted, elements_end}
use Rattle.oas_info.proofs.counting.count_elements.Goals as goal

pub loop-element-init : goal.loop-element-init
loop-element-init c =
    let same : c.into_iter-element-iterator.result ≡ c.args.elements = search rules in
    elements_begin c.args.elements c.into_iter-element-iterator.result c.args.totals.now c.requires.some c.requires.room same

pub count_element-requires-clause-some : goal.count_element-requires-clause-some
count_element-requires-clause-some c = pair_some c.args.elements _ _ _ _ c.in-Some.ensures.steps c.args.totals.now c.loop-element.totals c.loop-element.invariant

pub count_element-requires-clause-room : goal.count_element-requires-clause-room
count_element-requires-clause-room c = pair_room c.args.elements _ _ _ _ c.in-Some.ensures.steps c.args.totals.now c.loop-element.totals c.loop-element.invariant

pub loop-element-preserved : goal.loop-element-preserved
loop-element-preserved c =
    pair_counted c.args.elements _ _ _ _ c.in-Some.ensures.steps c.args.totals.now c.loop-element.totals c.loop-element.invariant c.count_element.new.totals c.in_ok-count_element.ensures

pub returns : goal.returns
returns c = elements_end c.args.elements _ c.args.totals.now c.loop-element.totals c.loop-element.invariant c.in-None.ensures.steps.0
