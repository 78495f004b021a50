-- The variables that are tracked, and all variables of the standard.
use Rattle.std.proofs.Common.{◌≡◌, ℕ, Bool, true, false, refl, ap, ◌∙◌, arith}
use Rattle.std.proofs.lemmas.Int.{ints}
use Rattle.std.specs.Prelude.{ℤ, pos, negsuc, neg_ℤ, ◌≤ℤ◌, ◌+ℤ◌, ◌-◌, ◌^◌, min, cond, unwrap_or, Option, Some, None}
use Rattle.std.specs.Int.{saturate_signed, w64}
use Rattle.std.specs.Option.{option_or}
use Rattle.oas_record.specs.declared.spots.Spot.{Spot}
use Rattle.oas_record.specs.declared.records.Record.{Record}
use Rattle.oas_drawing.specs.Looking.{is_cell}
use Rattle.oas_drawing.specs.GivenFields.{GivenFields, given_fields}
use Rattle.oas_drawing.specs.Positions.{IsWithin, IsNear}
use Rattle.oas_drawing.specs.Values.{new_repetition}
use Rattle.oas_drawing.specs.Modal.{ModalState, moved, moved_by, given, stepped, fresh as modal_fresh}
use Rattle.oas_trapezoids.specs.Places.{coordinate_after}
use Rattle.oas_trapezoids.specs.Tracked.{Tracked, fresh, tracked_by, tracked}
use Rattle.oas_trapezoids.specs.Laws.{AreKept}

small_pos : (n : ℕ) → pos n ≤ℤ pos (2 ^ 60) → min n (2 ^ 63 - 1) ≡ n
small_pos n h = omega (arith, ints)

small_neg : (n : ℕ) → neg_ℤ (pos (2 ^ 60)) ≤ℤ negsuc n → min n (2 ^ 63 - 1) ≡ n
small_neg n h = omega (arith, ints)

-- a coordinate within the limits is one of 64 bits
near_saturated : (z : ℤ) → IsWithin z → saturate_signed w64 z ≡ z
near_saturated (pos n) h = ap (λ (k : ℕ). pos k) (small_pos n h.high)
near_saturated (negsuc n) h = ap (λ (k : ℕ). negsuc k) (small_neg n h.low)

near_moved : (relative : Bool) (at : ℤ) (given : Option ℤ) → IsWithin (moved relative at given) → coordinate_after relative at given ≡ moved relative at given
near_moved relative at None h = refl
near_moved true at (Some z) h = near_saturated (at +ℤ z) h
near_moved false at (Some z) h = refl

kept_moved : (r q : Bool) (x z : ℤ) (given : Option ℤ) → r ≡ q → x ≡ z → IsWithin (moved q z given) → coordinate_after r x given ≡ moved q z given
kept_moved r q x z given e f h = ap (λ (b : Bool). coordinate_after b x given) e ∙ ap (λ (a : ℤ). coordinate_after q a given) f ∙ near_moved q z given h

height_kept : (square : Bool) (width height sw mw sh mh : Option ℕ) → sw ≡ mw → sh ≡ mh →
    option_or (cond square (option_or width sw) height) sh ≡ option_or (cond square (option_or width mw) height) mh
height_kept square width height sw mw sh mh e f =
    ap (λ (w : Option ℕ). option_or (cond square (option_or width w) height) sh) e
    ∙ ap (option_or (cond square (option_or width mw) height)) f

module _ (s : Tracked) (m : ModalState) (k : AreKept s m) where
  pub x_kept : (spot : Spot) → IsNear (moved_by m.relative m.geometry spot) → coordinate_after s.place.relative s.place.x spot.x ≡ moved m.relative m.geometry.x spot.x
  x_kept spot near = kept_moved s.place.relative m.relative s.place.x m.geometry.x spot.x k.relative k.x near.x

  pub y_kept : (spot : Spot) → IsNear (moved_by m.relative m.geometry spot) → coordinate_after s.place.relative s.place.y spot.y ≡ moved m.relative m.geometry.y spot.y
  y_kept spot near = kept_moved s.place.relative m.relative s.place.y m.geometry.y spot.y k.relative k.y near.y

  given_kept : (g : GivenFields) → IsNear (given m g).geometry → AreKept (tracked_by s g) (given m g)
  given_kept g near = record {
    layer = ap (option_or g.layer) k.layer;
    datatype = ap (option_or g.datatype) k.datatype;
    width = ap (option_or g.width) k.width;
    height = height_kept g.square g.width g.height s.width m.width s.height m.height k.width k.height;
    polygon_points = ap (option_or g.polygon_points) k.polygon_points;
    repetition = ap (option_or (new_repetition g.repetition)) k.repetition;
    relative = ap (unwrap_or g.relative) k.relative;
    x = x_kept g.geometry near;
    y = y_kept g.geometry near;
  }

  kept_by : (cell : Bool) (g : GivenFields) → IsNear (cond cell modal_fresh (given m g)).geometry → AreKept (cond cell fresh (tracked_by s g)) (cond cell modal_fresh (given m g))
  kept_by true g near = record {
    layer = refl;
    datatype = refl;
    width = refl;
    height = refl;
    polygon_points = refl;
    repetition = refl;
    relative = refl;
    x = refl;
    y = refl;
  }
  kept_by false g near = given_kept g near

  pub record_kept : (r : Record) → IsNear (stepped m r).geometry → AreKept (tracked s r) (stepped m r)
  record_kept r near = kept_by (is_cell r) (given_fields r) near
