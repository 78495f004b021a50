-- How an element is judged that was compared with the latest one.
use Rattle.std.proofs.Common.{◌≡◌, ◌↔◌, ℕ, Bool, false, IsTrue, List, Option, Some, is_gt, sym, ◌∙◌, ap, subst}
use Rattle.std.specs.declared.cmp.Ordering.{Ordering}
use Rattle.oas_elements.specs.declared.element.Element.{Element}
use Rattle.oas_elements.specs.Element.{element_cmp}
use Rattle.oas_form.specs.Bytes.{element_bytes}
use Rattle.oas_form.specs.Judging.{IsNotBelow, GoesOnDrawing}
use Rattle.oas_form.specs.declared.judging.FormJudge.{FormJudge}
use Rattle.oas_form.proofs.JudgeStanding.{draws_kept}

-- an element that the latest one compares with like this
pub draws_next : (old : FormJudge) (now : Bool) (last made kept : Element) (order : Ordering) (bytes : List ℕ) → old.element ≡ Some last → order ≡ element_cmp last kept →
    IsTrue now ↔ (IsTrue old.holds × (is_gt order ≡ false))
    → element_bytes kept ≡ bytes → made ≡ kept → GoesOnDrawing old kept bytes (record { holds = now; name = old.name; element = Some made })
draws_next old now last made kept order bytes latest is step spelled same =
    let above : (is_gt order ≡ false) ↔ IsNotBelow old.element kept = subst (λ (o : Option Element). (is_gt order ≡ false) ↔ IsNotBelow o kept) (sym latest)
    (λ e. ap is_gt (sym is) ∙ e, λ e. ap is_gt is ∙ e) in
    subst (λ (e : Element). GoesOnDrawing old kept bytes (record { holds = now; name = old.name; element = Some e })) (sym same)
    (draws_kept old.holds now old.name old.element kept bytes (λ t. let s = step.0 t in (s.0, spelled, above.0 s.1), λ s. step.1 (s.0, above.1 s.2)))
