-- What is proved about each kind of element: about its canonical record, and about that record's bytes.
use Rattle.std.proofs.Common.{◌≡◌, ℕ, ◌*◌, ◌≤◌, false, List, length, Some, None, ◌^◌}
use Rattle.oas_num.specs.Style.{Shortest}
use Rattle.oas_elements.specs.declared.element.Element.{Element}
use Rattle.oas_elements.specs.Weight.{weight_of, lacks_points}
use Rattle.oas_form.specs.Records.{element_record}
use Rattle.oas_form.specs.Bytes.{element_bytes}
use Rattle.oas_form.specs.Spelling.{HasPoint}
use Rattle.oas_shape.specs.Steps.{still}
use Rattle.oas_file.specs.Drawn.TheVariants.{Named}
use Rattle.oas_file.specs.Modal.{ModalState, stepped}
use Rattle.oas_file.specs.Drawing.{drawn_at, kind_of, repeats}
use Rattle.oas_record.specs.Records.{record_in}
use Rattle.oas_elements.specs.declared.limits.Limits.{Limits}
use Rattle.oas_file.specs.Reasons.{draw_reason}
use Rattle.oas_elements.specs.Sound.{IsSound, Fits}
use Rattle.oas_file.specs.Kind.{Kind}
use Rattle.oas_form.proofs.ElementSpelling.{Inner}
use Rattle.oas_form.proofs.OneAllowed.{IsFine}

pub record OfElement (e : Element) : Type 0 where
  -- its kind
  pub kind : Kind
  pub is : kind_of (element_record e) ≡ Some kind
  -- it has no repetition
  pub once : repeats (element_record e) ≡ false
  -- where coordinates are absolute, it draws its element, whatever the variables were before it
  pub drawn : (m : ModalState) → m.relative ≡ false → lacks_points e ≡ false → drawn_at (stepped m (element_record e)) (element_record e) still ≡ Some (Named e)
  -- it is refused for no reason, where its element is sound and there is room for it
  pub allowed : (limits : Limits) (count weight : ℕ) (m : ModalState) → m.relative ≡ false → IsFine limits count weight (stepped m (element_record e)) e →
      draw_reason limits count weight (stepped m (element_record e)) (element_record e) ≡ None
  -- its bytes spell it
  pub inner : IsSound e → weight_of e ≤ 2 ^ 30 → Inner (element_record e) (element_bytes e)
  -- what spells it has names, strings and numbers of 64 bits
  pub fits : (bytes : List ℕ) → record_in Shortest false (element_record e) bytes → Fits e
  -- how many bytes they are
  pub short : HasPoint e → length (element_bytes e) ≤ 64 * weight_of e
