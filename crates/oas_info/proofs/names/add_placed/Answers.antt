use Rattle.std.proofs.Common.{◌≡◌, rules}
use Rattle.oas_info.proofs.NameLemmas.{elements_begin, element_added, none_left, elements_done}
use Rattle.oas_info.proofs.names.add_placed.Goals as goal

pub loop-element-init : goal.loop-element-init
loop-element-init c =
    let same : c.into_iter-element-iterator.result ≡ c.args.elements = search rules in
    elements_begin c.args.elements c.into_iter-element-iterator.result c.args.names.now.keys _ c.requires same (search rules)

pub loop-element-preserved : goal.loop-element-preserved
loop-element-preserved c =
    element_added c.args.elements _ _ _ _ c.in-Some.ensures.steps c.args.names.now.keys c.loop-element.names.keys c.loop-element.before.now c.loop-element.invariant
    c.in-Some-placed.cell.now c.add_next.new.names.keys c.in-Some-placed.ensures.0 c.in_ok-add_next.ensures

pub returns : goal.returns
returns c = elements_done c.args.elements _ c.args.names.now.keys c.loop-element.names.keys c.loop-element.before.now c.loop-element.invariant c.in-None.ensures.steps.0

pub returns-in_default : goal.returns-in_default
returns-in_default c =
    none_left c.args.elements _ _ _ _ c.in-Some.ensures.steps c.args.names.now.keys c.loop-element.names.keys c.loop-element.before.now c.loop-element.invariant c.in_default.ensures
