use Rattle.std.proofs.Common.{nat_cmp, sym, ◌∙◌, ap}
use Rattle.std.specs.Cmp.Lexicographic.{slice_cmp}
use Rattle.oas_elements.specs.Element.{element_cmp, ◌then◌}
use Rattle.oas_elements.specs.declared.element.Element.TheVariants.{Text}
use Rattle.oas_form.proofs.following.text_order.Goals as goal

pub returns : goal.returns
returns c =
    let there = c.then-there.ensures ∙ (λ i. c.cmp.ensures i then c.cmp-2.ensures i) in
    let above = c.then.ensures ∙ (λ i. c.cmp-4.ensures i then there i) in
    let layered = c.then-layered.ensures ∙ (λ i. c.cmp-3.ensures i then above i) in
    let named = c.cmp-5.ensures ∙ ap (λ bytes. slice_cmp nat_cmp bytes c.args.string.now) c.as_bytes.ensures.bytes in
    c.then-2.ensures
    ∙ (λ i. named i then layered i)
    ∙ ap (λ e. element_cmp e (Text c.args.string.now c.args.layers.0 c.args.layers.1 c.args.at.0 c.args.at.1)) (sym c.in-Text.is)
