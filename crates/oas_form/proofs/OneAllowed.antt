-- A canonical record is refused for no reason, where its element is sound and there is room for it.
use Rattle.std.proofs.Common.{◌≡◌, ℕ, ◌+◌, ◌*◌, ◌≤◌, Bool, true, false, ◌∷◌, Option, None, Some, ◌&&◌, refl, ap, ◌∙◌, arith, []}
use Rattle.std.proofs.lemmas.Bool.{le-ltb}
use Rattle.std.specs.Prelude.{not, nat_lt, is_none}
use Rattle.std.specs.Option.{option_or}
use Rattle.oas_num.specs.declared.refusals.Why.{Why}
use Rattle.oas_num.specs.declared.refusals.Why.TheVariants.{ModalUndefined, Magnification, Angle, TooManyElements, TooHeavy, PointCount, CoordinateRange}
use Rattle.oas_shape.specs.Steps.{still}
use Rattle.oas_elements.specs.declared.element.Element.{Element}
use Rattle.oas_elements.specs.declared.limits.Limits.{Limits}
use Rattle.oas_elements.specs.Grid.{fits_grid}
use Rattle.oas_elements.specs.Weight.{weight_of, lacks_points}
use Rattle.oas_file.specs.Drawn.{Drawn}
use Rattle.oas_file.specs.Drawn.TheVariants.{Named}
use Rattle.oas_file.specs.Modal.{ModalState}
use Rattle.oas_file.specs.Drawing.{drawn_at}
use Rattle.oas_file.specs.Reasons.{first_of, weight_if, lacks_if, fits_if}
use Rattle.oas_form.specs.Records.{element_record}

-- why a record without a repetition is refused, by the conditions in their order
abbrev pub judged : Bool → Bool → Bool → Bool → Bool → Bool → Bool → Bool → Option Why
judged undefined magnified askew many heavy lacks off out =
    option_or (first_of (
    (undefined, ModalUndefined) ∷
    (false, ModalUndefined) ∷
    (magnified, Magnification) ∷
    (askew, Angle) ∷
    (many, TooManyElements) ∷
    (heavy, TooHeavy) ∷
    (lacks, PointCount) ∷
    (off, CoordinateRange) ∷ [])) (first_of ((out, CoordinateRange) ∷ []))

-- none of these holds for a canonical record
pub record IsFine (limits : Limits) (count weight : ℕ) (m : ModalState) (e : Element) : Type 0 where
  pub drawn : drawn_at m (element_record e) still ≡ Some (Named e)
  pub points : lacks_points e ≡ false
  pub inside : fits_grid e ≡ true
  pub few : count + 1 ≤ limits.elements
  pub light : weight + weight_of e ≤ limits.weight

module _ (limits : Limits) (count weight : ℕ) (m : ModalState) (e : Element) (h : IsFine limits count weight m e) where
  -- with what is drawn, and the position
  abbrev pub by_drawn : Option Drawn → Bool → Option Why
  by_drawn d at =
      judged (is_none d) false false (nat_lt limits.elements (count + 1)) (nat_lt limits.weight (weight + 1 * weight_if d)) (lacks_if d) (not at) (not (fits_if d && true))

  not_heavy : nat_lt limits.weight (weight + 1 * weight_of e) ≡ false
  not_heavy = le-ltb limits.weight (weight + 1 * weight_of e) (omega (arith, h.light))

  not_many : nat_lt limits.elements (count + 1) ≡ false
  not_many = le-ltb limits.elements (count + 1) h.few

  pub none_wrong : (at : Bool) → at ≡ true → by_drawn (drawn_at m (element_record e) still) at ≡ None
  none_wrong at e' =
      ap (λ (d : Option Drawn). by_drawn d at) h.drawn
      ∙ (λ i. judged false false false (not_many i) (not_heavy i) (h.points i) (not (e' i)) (not (h.inside i && true)))

-- parts of a test that holds
pub first_part : (a b : Bool) → (a && b) ≡ true → a ≡ true
first_part true b e = refl
first_part false b e = e

pub last_part : (a b : Bool) → (a && b) ≡ true → b ≡ true
last_part true b e = e
last_part false b e = absurd cc
