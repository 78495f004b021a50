use Rattle.std.proofs.Common.{nat_cmp, sym, ◌∙◌, ap}
use Rattle.std.specs.Cmp.Lexicographic.{slice_cmp}
use Rattle.oas_elements.specs.Laws.ElementLaws.{same_turns}
use Rattle.oas_elements.specs.Element.{element_cmp, ◌then◌}
use Rattle.oas_elements.specs.declared.element.Element.TheVariants.{Placement}
use Rattle.oas_form.proofs.following.placement_order.Goals as goal

pub returns : goal.returns
returns c =
    let turns = c.cmp.ensures ∙ same_turns c.in-Placement.last_turns c.args.turns in
    let turned = c.then-turned.ensures ∙ (λ i. turns i then c.cmp-2.ensures i) in
    let above = c.then.ensures ∙ (λ i. c.cmp-4.ensures i then turned i) in
    let there = c.then-there.ensures ∙ (λ i. c.cmp-3.ensures i then above i) in
    let named = c.cmp-5.ensures ∙ ap (λ bytes. slice_cmp nat_cmp bytes c.args.name.now) c.as_bytes.ensures.bytes in
    c.then-2.ensures
    ∙ (λ i. named i then there i)
    ∙ ap (λ e. element_cmp e (Placement c.args.name.now c.args.at.0 c.args.at.1 c.args.turns c.args.flip)) (sym c.in-Placement.is)
