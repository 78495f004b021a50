use Rattle.std.proofs.Common.{◌≡◌, Bool, true, false, not, Option, IsTrue, ◌↔◌, is_gt, refl, ap, sym, ◌∙◌, subst}
use Rattle.oas_elements.specs.declared.element.Element.{Element}
use Rattle.oas_elements.specs.Element.{element_cmp}
use Rattle.oas_form.specs.Judging.{IsNotBelow}
use Rattle.oas_form.proofs.judging.is_not_below.Goals as goal

decided : (r : Bool) → IsTrue (not r) ↔ (r ≡ false)
decided true = (λ t. absurd cc, λ e. absurd cc)
decided false = (λ t. refl, λ e. refl)

pub returns-in-Some : goal.returns-in-Some
returns-in-Some c =
    let d : c.is_gt.result ≡ is_gt (element_cmp c.in-Some.before c.args.element.now) = c.is_gt.ensures ∙ ap is_gt c.element_order.ensures in
    subst (λ (o : Option Element). IsTrue (not c.is_gt.result) ↔ IsNotBelow o c.args.element.now) (sym c.in-Some.is)
    (subst (λ (r : Bool). IsTrue (not c.is_gt.result) ↔ (r ≡ false)) d (decided c.is_gt.result))
