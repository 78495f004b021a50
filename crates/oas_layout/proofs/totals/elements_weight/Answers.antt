use Rattle.std.proofs.Common.{◌≡◌, ◌∙◌, ap, rules, arith}
use Rattle.std.specs.Prelude.{◌-◌, ◌^◌, min}
use Rattle.oas_elements.specs.declared.element.Element.{Element}
use Rattle.oas_elements.specs.Weight.{weight_of}
use Rattle.oas_layout.proofs.TotalLemmas.{weighed_first, weighed_room, weighed_next, weighed_last}
use Rattle.oas_layout.proofs.totals.elements_weight.Goals as goal

pub loop-element-init : goal.loop-element-init
loop-element-init c =
    let same : c.into_iter-element-iterator.result ≡ c.args.elements = search rules in
    weighed_first weight_of c.args.elements c.into_iter-element-iterator.result same

pub overflow_mul-weight : goal.overflow_mul-weight
overflow_mul-weight c = omega (
  arith,
  c.requires,
  weighed_room weight_of c.args.elements _ _ _ c.loop-element.weight c.shown_weight.result (2 ^ 64 - 1) c.in-Some.ensures.steps
      (c.shown_weight.ensures ∙ ap (λ (e : Element). min (weight_of e) (2 ^ 64 - 1)) c.show.ensures.element) c.loop-element.invariant (omega (arith, c.requires)),
)

pub overflow_add-weight : goal.overflow_add-weight
overflow_add-weight c = omega (
  arith,
  c.requires,
  weighed_room weight_of c.args.elements _ _ _ c.loop-element.weight c.shown_weight.result (2 ^ 64 - 1) c.in-Some.ensures.steps
      (c.shown_weight.ensures ∙ ap (λ (e : Element). min (weight_of e) (2 ^ 64 - 1)) c.show.ensures.element) c.loop-element.invariant (omega (arith, c.requires)),
)

pub loop-element-preserved : goal.loop-element-preserved
loop-element-preserved c = weighed_next weight_of c.args.elements _ _ _ c.loop-element.weight c.shown_weight.result (2 ^ 64 - 1) c.in-Some.ensures.steps
    (c.shown_weight.ensures ∙ ap (λ (e : Element). min (weight_of e) (2 ^ 64 - 1)) c.show.ensures.element) c.loop-element.invariant (omega (arith, c.requires))

pub returns : goal.returns
returns c = weighed_last weight_of c.args.elements _ c.loop-element.weight c.in-None.ensures.steps.0 c.loop-element.invariant
