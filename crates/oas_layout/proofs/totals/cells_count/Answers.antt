use Rattle.std.proofs.Common.{◌≡◌, ◌+◌, ℕ, List, length, ap, rules, arith}
use Rattle.oas_elements.specs.declared.element.Element.{Element}
use Rattle.oas_layout.proofs.TotalLemmas.{summed_first, summed_room, summed_next, summed_last}
use Rattle.oas_layout.proofs.totals.cells_count.Goals as goal

pub loop-elements-init : goal.loop-elements-init
loop-elements-init c =
    let same : c.into_iter-elements-iterator.result ≡ c.args.cells = search rules in
    summed_first (λ (c : List ℕ × List Element). length c.1) c.args.cells c.into_iter-elements-iterator.result same

pub elements_count-count-requires : goal.elements_count-count-requires
elements_count-count-requires c =
    omega (arith, c.requires, summed_room (λ (c : List ℕ × List Element). length c.1) c.args.cells _ _ _ c.loop-elements.count c.in-Some.ensures.steps c.loop-elements.invariant)

pub overflow_add-count : goal.overflow_add-count
overflow_add-count c =
    omega (arith, c.requires, c.elements_count-count.ensures, summed_room (λ (c : List ℕ × List Element). length c.1) c.args.cells _ _ _ c.loop-elements.count c.in-Some.ensures.steps c.loop-elements.invariant)

pub loop-elements-preserved : goal.loop-elements-preserved
loop-elements-preserved c =
    summed_next (λ (c : List ℕ × List Element). length c.1) c.args.cells _ _ _ c.loop-elements.count _ c.in-Some.ensures.steps c.loop-elements.invariant (ap (λ (n : ℕ). c.loop-elements.count + n) c.elements_count-count.ensures)

pub returns : goal.returns
returns c = summed_last (λ (c : List ℕ × List Element). length c.1) c.args.cells _ c.loop-elements.count c.in-None.ensures.steps.0 c.loop-elements.invariant
