use Rattle.std.proofs.Common.{◌≡◌, rules, arith}
use Rattle.oas_layout.proofs.TotalLemmas.{counted_first, counted_room, counted_next, counted_last}
use Rattle.oas_layout.proofs.totals.elements_count.Goals as goal

pub loop-times-init : goal.loop-times-init
loop-times-init c =
    let same : c.into_iter-times-iterator.result ≡ c.args.elements = search rules in
    counted_first c.args.elements c.into_iter-times-iterator.result same

pub overflow_add-count : goal.overflow_add-count
overflow_add-count c = omega (arith, c.requires, counted_room c.args.elements _ _ _ c.loop-times.count c.in-Some.ensures.steps c.loop-times.invariant)

pub loop-times-preserved : goal.loop-times-preserved
loop-times-preserved c = counted_next c.args.elements _ _ _ c.loop-times.count c.in-Some.ensures.steps c.loop-times.invariant

pub returns : goal.returns
returns c = counted_last c.args.elements _ c.loop-times.count c.in-None.ensures.steps.0 c.loop-times.invariant
