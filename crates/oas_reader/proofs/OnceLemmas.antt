-- An element without a repetition, in the open cell: its one copy is drawn.
use Rattle.std.proofs.Common.{◌≡◌, ℕ, ◌+◌, ◌*◌, List, [], ◌++◌, refl, sym, ap, ◌∙◌, subst, arith, false}
use Rattle.std.specs.Prelude.{Option, None, Some, replicate}
use Rattle.std.specs.Option.{option_to_list}
use Rattle.oas_num.specs.declared.refusals.Why.{Why}
use Rattle.oas_shape.specs.Steps.{still}
use Rattle.oas_ring.specs.declared.point.Point.{Point}
use Rattle.oas_record.specs.declared.records.Record.{Record}
use Rattle.oas_peek.specs.declared.named.NamedOnce.{NamedOnce}
use Rattle.oas_peek.specs.declared.named.NamedOnce.TheVariants.{Placement, Text}
use Rattle.oas_peek.specs.Named.{named_record}
use Rattle.oas_drawing.specs.declared.drawn.Drawn.{Drawn}
use Rattle.oas_drawing.specs.declared.kinds.Kind.{Kind}
use Rattle.oas_drawing.specs.declared.kinds.Kind.TheVariants.{Rectangle}
use Rattle.oas_reader.specs.declared.parts.Parts.{Parts}
use Rattle.oas_drawing.specs.Positions.{IsNear}
use Rattle.oas_drawing.specs.Modal.{ModalState, stepped}
use Rattle.oas_drawing.specs.Drawn.{weight_so_far}
use Rattle.oas_drawing.specs.Drawing.{kind_of, repeats, rectangle_at, point_from, place_of, drawn_by}
use Rattle.oas_drawing.specs.Reasons.{weight_if, fault_of, kind_reason, reason_if}
use Rattle.oas_drawing.specs.Named.{named_by, named_kind}
use Rattle.oas_reader.specs.Stores.{Store, Draws}
use Rattle.oas_reader.specs.Parts.{reason_of, Sound, Took}
use Rattle.oas_reader.specs.Copying.{first_copies}
use Rattle.oas_reader.proofs.JudgedDraws.{InCell, refused_kind, allowed_draw, took_draw, sound_draw}

-- ---- its weight

-- a rectangle weighs one
rectangle_weighs : (a b c d : Option ℕ) (at : Point) (e : Drawn) → rectangle_at a b c d at ≡ Some e → 1 ≡ 1 * weight_if (rectangle_at a b c d at)
rectangle_weighs None b c d at e h = cc
rectangle_weighs (Some a) None c d at e h = cc
rectangle_weighs (Some a) (Some b) None d at e h = cc
rectangle_weighs (Some a) (Some b) (Some c) None at e h = cc
rectangle_weighs (Some a) (Some b) (Some c) (Some d) at e h = refl

pub one_weighs : (m : ModalState) (d : Drawn) → drawn_by m Rectangle still ≡ Some d → 1 ≡ 1 * weight_if (drawn_by m Rectangle still)
one_weighs m d is = rectangle_weighs m.layer m.datatype m.width m.height (point_from m.geometry still) d is

-- and anything else its weight so far
pub weighs_so_far : (o : Option Drawn) (d : Drawn) (w : ℕ) → o ≡ Some d → w ≡ weight_so_far d → w ≡ 1 * weight_if o
weighs_so_far o d w is weighs =
    let one : weight_so_far d ≡ 1 * weight_so_far d = omega arith in
    weighs ∙ (one ∙ ap (λ (x : Option Drawn). 1 * weight_if x) (sym is))

-- ---- what it is

-- a placement or a text at hand is an element record of its kind, without a repetition
pub named_is : (n : NamedOnce) → kind_of (named_record n) ≡ Some (named_kind n)
named_is (Placement c quarters flip x y) = refl
named_is (Text s textlayer texttype x y) = refl

pub named_once : (n : NamedOnce) → false ≡ repeats (named_record n)
named_once (Placement c quarters flip x y) = refl
named_once (Text s textlayer texttype x y) = refl

-- ---- why it is refused

-- whose fields are set, where m are the variables with them, and its name is set or not
module _ {S : Type 0} (t : Store S) (p : Parts S) (n : NamedOnce) (held : S) (m : ModalState) (held_is : p.cell ≡ Some held)
    (fields : named_by m n ≡ stepped p.modal (named_record n)) (sound : Sound t p) where
  pub named_in_cell : (m' : ModalState) → m' ≡ named_by m n → InCell t p (named_record n) (named_kind n) held m' false
  named_in_cell m' is = record { kind_is = named_is n; held_is = held_is; modal_is = is ∙ fields; repeats_is = named_once n; sound = sound }

  pub named_refused : (why : Why) → reason_if p.limits p.count p.weight (named_by m n) (Some (named_kind n)) false ≡ Some why → reason_of p (named_record n) ≡ Some why
  named_refused why h = refused_kind t p (named_record n) (named_kind n) held (named_by m n) false (named_in_cell (named_by m n) refl) why h

  pub named_allowed : kind_reason p.limits p.count p.weight (named_by m n) (named_kind n) false ≡ None → fault_of (drawn_by (named_by m n) (named_kind n) still) ≡ None
      → reason_of p (named_record n) ≡ None
  named_allowed none fits =
      allowed_draw t p (named_record n) (named_kind n) held (named_by m n) false (named_in_cell (named_by m n) refl) 1 none refl (λ i small. fits)

-- ---- what is kept after it

-- its one copy
one_copy : (m : ModalState) (kind : Kind) (d : Drawn) → drawn_by m kind still ≡ Some d → replicate 1 d ≡ first_copies m kind false 1
one_copy m kind d is = sym (ap (λ (o : Option Drawn). option_to_list o ++ []) is)

module _ {S : Type 0} (t : Store S) (p : Parts S) (r : Record) (kind : Kind) (held : S) (m : ModalState) (c : InCell t p r kind held m false)
    (d : Drawn) (none : kind_reason p.limits p.count p.weight m kind false ≡ None) (is : drawn_by m kind still ≡ Some d) (held' : S) (w : ℕ)
    (weighs : w ≡ 1 * weight_if (drawn_by m kind still)) (drawn : Draws t held (replicate 1 d) held') where
  abbrev drew : Parts S
  drew = record p { modal = m; cell = Some held'; count = p.count + 1; weight = p.weight + w }

  drawn_once : Draws t held (first_copies m kind false 1) held'
  drawn_once = subst (λ (ds : List Drawn). Draws t held ds held') (one_copy m kind d is) drawn

  pub took_once : Took t p r drew
  took_once = took_draw t p r kind held m false c held' 1 w none refl weighs drawn_once

  pub sound_once : IsNear (place_of m kind) → Sound t drew
  sound_once near = sound_draw t p r kind held m false c held' 1 w none refl weighs near drawn_once
