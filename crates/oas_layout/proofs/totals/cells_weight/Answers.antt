use Rattle.std.proofs.Common.{◌≡◌, ◌+◌, ℕ, List, length, ap, rules, arith}
use Rattle.std.specs.Prelude.{sum_by}
use Rattle.oas_elements.specs.declared.element.Element.{Element}
use Rattle.oas_elements.specs.Weight.{weight_of}
use Rattle.oas_layout.proofs.TotalLemmas.{summed_first, summed_room, summed_next, summed_last}
use Rattle.oas_layout.proofs.totals.cells_weight.Goals as goal

pub loop-name-init : goal.loop-name-init
loop-name-init c =
    let same : c.into_iter-name-iterator.result ≡ c.args.cells = search rules in
    summed_first (λ (c : List ℕ × List Element). (1 + length c.0) + sum_by weight_of c.1) c.args.cells c.into_iter-name-iterator.result same

pub elements_weight-requires : goal.elements_weight-requires
elements_weight-requires c =
    omega (arith, c.requires, summed_room (λ (c : List ℕ × List Element). (1 + length c.0) + sum_by weight_of c.1) c.args.cells _ _ _ c.loop-name.weight c.in-Some.ensures.steps c.loop-name.invariant)

pub overflow_add-head : goal.overflow_add-head
overflow_add-head c =
    omega (
      arith,
      c.requires,
      ap (λ (b : List ℕ). length b) c.as_bytes.ensures.bytes,
      summed_room (λ (c : List ℕ × List Element). (1 + length c.0) + sum_by weight_of c.1) c.args.cells _ _ _ c.loop-name.weight c.in-Some.ensures.steps c.loop-name.invariant,
    )

pub overflow_add-weight : goal.overflow_add-weight
overflow_add-weight c =
    omega (
      arith,
      c.requires,
      ap (λ (b : List ℕ). length b) c.as_bytes.ensures.bytes,
      c.elements_weight.ensures,
      summed_room (λ (c : List ℕ × List Element). (1 + length c.0) + sum_by weight_of c.1) c.args.cells _ _ _ c.loop-name.weight c.in-Some.ensures.steps c.loop-name.invariant,
    )

pub loop-name-preserved : goal.loop-name-preserved
loop-name-preserved c =
    summed_next (λ (c : List ℕ × List Element). (1 + length c.0) + sum_by weight_of c.1) c.args.cells _ _ _ c.loop-name.weight _ c.in-Some.ensures.steps c.loop-name.invariant
    (omega (arith, ap (λ (b : List ℕ). length b) c.as_bytes.ensures.bytes, c.elements_weight.ensures))

pub returns : goal.returns
returns c = summed_last (λ (c : List ℕ × List Element). (1 + length c.0) + sum_by weight_of c.1) c.args.cells _ c.loop-name.weight c.in-None.ensures.steps.0 c.loop-name.invariant
