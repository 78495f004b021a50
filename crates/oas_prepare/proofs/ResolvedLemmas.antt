-- The second and the third of the records that one is translated to: each is refused after those before it.
use Rattle.std.proofs.Common.{◌≡◌, ◌⊎◌, inl, inr, ℕ, Option, None, Some, ap, ◌∙◌}
use Rattle.std.specs.Option.{option_or}
use Rattle.oas_num.specs.declared.refusals.Refusal.{Refusal}
use Rattle.oas_num.specs.declared.refusals.Why.{Why}
use Rattle.oas_num.specs.declared.refusals.Why.TheVariants.{Memory}
use Rattle.oas_prepare.specs.Taking.{IsRefused}

-- the record before isn't refused, and this one is
pub later_refused :
    (at : ℕ) (before this after : Option Why) (refusal : Refusal) (M : Type 0)
    → before ≡ None
    → (refusal.at ≡ at) × (((refusal.why ≡ Memory) × M) ⊎ (this ≡ Some refusal.why))
    → IsRefused at (option_or before (option_or this after)) refusal
later_refused at before this after refusal M p (place, inl m) = record { place = place; why = inl m.0 }
later_refused at before this after refusal M p (place, inr q) =
    record { place = place; why = inr (ap (λ (b : Option Why). option_or b (option_or this after)) p ∙ ap (λ (b : Option Why). option_or b after) q) }
