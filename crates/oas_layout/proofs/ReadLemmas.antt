-- The result of a whole read.
use Rattle.std.proofs.Common.{◌≡◌, ℕ, [], None, Some, Result, Ok, Err, OnOk, ◌⊎◌, sym, ◌∙◌, subst}
use Rattle.std.specs.Prelude.{IfOk, IfErr}
use Rattle.oas_num.specs.declared.refusals.Why.TheVariants.{Memory}
use Rattle.oas_num.specs.declared.refusals.Refusal.{Refusal}
use Rattle.oas_num.specs.Script.{Script, Consumed, IsAtEnd}
use Rattle.oas_record.specs.declared.heads.Head.{Head}
use Rattle.oas_elements.specs.declared.limits.Limits.{Limits}
use Rattle.oas_elements.specs.declared.profile.Profile.{Profile}
use Rattle.oas_elements.specs.Contents.{Contents, meaning_of}
use Rattle.oas_elements.specs.Meaning.{SameLayout}
use Rattle.oas_form.specs.Stands.{ReaderState, records_mean, end_refusal}
use Rattle.oas_cells.specs.Compact.{Compact, compact_store}
use Rattle.oas_form.specs.Gathering.{HasAll}
use Rattle.oas_form.specs.Reading.{IsRead, Refuses, ReadsLayout}
use Rattle.oas_form.proofs.Ending.{finished}
use Rattle.oas_layout.specs.LayoutOf.{IsLayoutOf}

module _ {limits : Limits} {profile : Profile} {old mid new : Script} {head : Head} {first s : ReaderState Compact} {at : ℕ} (m : HasAll (compact_store profile) old head first at mid s)
    (takes : Consumed mid [] new) (at_end : IsAtEnd new) (unit : first.unit ≡ head.unit) (within : first.limits ≡ limits) (by : first.profile ≡ profile) where
  -- END refuses it
  refused : (refusal : Refusal) → (refusal.at ≡ at) × ((refusal.why ≡ Memory) ⊎ (end_refusal s.limits m.records ≡ Some refusal.why)) → Refuses limits old refusal new
  refused refusal why = finished m takes at_end {profile = profile} (Err refusal) unit within by tt tt tt tt tt why

  -- it is read
  read : (l : Contents) → end_refusal s.limits m.records ≡ None → IsLayoutOf profile s.limits (records_mean s.unit m.records) l → IsRead limits profile old l new
  read l none is =
      let back : SameLayout profile (meaning_of l) (records_mean s.unit m.records) = record { unit = sym is.same.unit; cells = λ name. sym (is.same.cells name); counts = λ name e. sym (is.same.counts name e) } in
      let kept = sym (m.taken.same.profile ∙ by) in
      finished m takes at_end (Ok l) unit within by none (subst (λ (p : Profile). SameLayout p (meaning_of l) (records_mean s.unit m.records)) kept back) is.layout is.within (is.by ∙ kept) tt

  pub finishes : (r : Result Contents Refusal) → OnOk r (end_refusal s.limits m.records ≡ None) → IfErr r (λ e. (e.at ≡ at) × ((e.why ≡ Memory) ⊎ (end_refusal s.limits m.records ≡ Some e.why)))
      → IfOk r (λ l. IsLayoutOf profile s.limits (records_mean s.unit m.records) l) → ReadsLayout limits profile old r new
  finishes (Ok l) none why is = read l none is
  finishes (Err refusal) none why is = refused refusal why
