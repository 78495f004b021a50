-- Why records are refused.
use Rattle.std.proofs.Common.{◌≡◌, ℕ, Bool, true, false, List, [], Option, None, Some, refl, sym, subst}
use Rattle.std.specs.Prelude.{◌&&◌, is_none, nat_le, if◌then◌else◌, Result, Ok, Err}
use Rattle.std.specs.Option.{option_or}
use Rattle.oas_shape.specs.declared.repetitions.RepField.{RepField}
use Rattle.oas_record.specs.declared.records.Record.{Record}
use Rattle.oas_trapezoids.specs.declared.corners.Corner.{Corner}
use Rattle.oas_trapezoids.specs.declared.sides.Sides.{Sides}
use Rattle.oas_trapezoids.specs.Named.{named}
use Rattle.oas_trapezoids.specs.Sides.{box_of}
use Rattle.oas_standard.specs.declared.extensions.ExtensionGeometry.{ExtensionGeometry}
use Rattle.oas_standard.specs.declared.trapezoids.Trapezoid.{Trapezoid}
use Rattle.oas_standard.specs.declared.trapezoids.NamedTrapezoid.{NamedTrapezoid}
use Rattle.oas_standard.specs.declared.reasons.WideWhy.{WideWhy}
use Rattle.oas_standard.specs.declared.records.WideRecord.{WideRecord}
use Rattle.oas_standard.specs.declared.records.WideRecord.TheVariants as wide
use Rattle.oas_trapezoids.specs.Tracked.{Tracked, tracked}
use Rattle.oas_trapezoids.specs.Kept.{given, given_mixed}
use Rattle.oas_trapezoids.specs.Shapes.{shape_of}
use Rattle.oas_trapezoids.specs.Trapezoids.{enclosed, corners_of, trapezoid_after, box_at, modal_box, trapezoid_by, checked, box_if, box_by, named_box, named_after, named_by}
use Rattle.oas_trapezoids.specs.Extensions.{geometry_after, geometry_by}
use Rattle.oas_trapezoids.specs.Steps.{translated_by}
use Rattle.oas_trapezoids.specs.Laws.{IsReason, Undefined, OffGrid, OtherSide, NoKind, NoShape}

-- what is refused is refused for one of them
record RefusedSo {V : Type 0} (h : Result V WideWhy) : Type 0 where
  by : (why : WideWhy) → h ≡ Err why → IsReason why

ok_so : {V : Type 0} (v : V) → RefusedSo {V = V} (Ok v)
ok_so v = record { by = λ why e. absurd cc }

err_so : {V : Type 0} (why : WideWhy) → IsReason why → RefusedSo {V = V} (Err why)
err_so {V = V} why is = record { by = λ other e. subst IsReason (same other e) is } where
  same : (other : WideWhy) → ◌≡◌ {A = Result V WideWhy} (Err why) (Err other) → why ≡ other
  same other e = cc

if_so : {V : Type 0} (b : Bool) (x y : Result V WideWhy) → RefusedSo x → RefusedSo y → RefusedSo (if b then x else y)
if_so true x y p q = p
if_so false x y p q = q

-- ---- records of the profile

given_so : (s : Tracked) (r : Record) → RefusedSo (given s r)
given_so s r = if_so s.is_mixed _ _ (if_so _ _ _ (err_so _ (Undefined refl)) (ok_so _)) (ok_so _)

-- ---- trapezoids

shape_so : (s : Tracked) (field : Option RepField) (box : Sides) (corners : List Corner) → RefusedSo (shape_of s field box corners)
shape_so s field box corners = if_so _ _ _ (ok_so _) (err_so _ (OffGrid refl))

enclosed_so : (s : Tracked) (field : Option RepField) (box : Sides) (corners : Option (List Corner)) → RefusedSo (enclosed s field box corners)
enclosed_so s field box None = err_so _ (NoShape refl)
enclosed_so s field box (Some corners) = shape_so s field box corners

box_so : (w h : Option ℕ) → RefusedSo (box_at w h)
box_so (Some w) (Some h) = ok_so _
box_so None h = err_so _ (Undefined refl)
box_so (Some w) None = err_so _ (Undefined refl)

trapezoid_so : (s : Tracked) (t : Trapezoid) (h : Result Sides WideWhy) → RefusedSo h → RefusedSo (trapezoid_by s t h)
trapezoid_so s t (Err why) p = err_so why (p.by why refl)
trapezoid_so s t (Ok box) p = enclosed_so s t.spot.repetition box (corners_of t box)

checked_so : (t : NamedTrapezoid) (box : Option Sides) → RefusedSo (checked t box)
checked_so t None = err_so _ (Undefined refl)
checked_so t (Some box) = if_so _ _ _ (if_so _ _ _ (ok_so _) (err_so _ (OtherSide refl))) (err_so _ (OffGrid refl))

kind_so : (s : Tracked) (kind : Option ℕ) (t : NamedTrapezoid) → RefusedSo (box_by s kind t)
kind_so s None t = err_so _ (Undefined refl)
kind_so s (Some kind) t = if_so (nat_le 26 kind) _ _ (err_so _ (NoKind refl)) (checked_so t (box_of kind (option_or t.width s.width) (option_or t.height s.height)))

named_so : (s : Tracked) (t : NamedTrapezoid) (kind : Option ℕ) (h : Result Sides WideWhy) → RefusedSo h → RefusedSo (named_by s t kind h)
named_so s t kind (Err why) p = err_so why (p.by why refl)
named_so s t None (Ok box) p = err_so _ (Undefined refl)
named_so s t (Some kind) (Ok box) p = enclosed_so s t.spot.repetition box (named kind box.width box.height)

-- ---- geometry of extensions

geometry_so : (s : Tracked) (g : ExtensionGeometry) → RefusedSo (geometry_by s g)
geometry_so s g = if_so _ _ _ (err_so _ (Undefined refl)) (if_so _ _ _ (ok_so _) (err_so _ (OffGrid refl)))

-- ---- all records

handed_so : (s : Tracked) (w : WideRecord) → RefusedSo (translated_by s w)
handed_so s (wide.Profile r) = given_so (tracked s r) r
handed_so s (wide.Trapezoid t) = let after = trapezoid_after s t in trapezoid_so after t (modal_box after) (box_so after.width after.height)
handed_so s (wide.NamedTrapezoid t) = named_so (named_after s t) t (option_or t.kind s.kind) (named_box s t) (kind_so s (option_or t.kind s.kind) t)
handed_so s (wide.ExtensionGeometry g) = geometry_so (geometry_after s g) g
handed_so s (wide.End end) = ok_so _
handed_so s (wide.PropertyName name number) = ok_so _
handed_so s (wide.PropertyString string number) = ok_so _
handed_so s (wide.Property property) = ok_so _
handed_so s wide.LastProperty = ok_so _
handed_so s (wide.LayerName name) = ok_so _
handed_so s (wide.TextLayerName name) = ok_so _
handed_so s (wide.ExtensionName attribute string number) = ok_so _
handed_so s (wide.ExtensionElement attribute string) = ok_so _
handed_so s (wide.Placement p) = ok_so _
handed_so s (wide.Block head) = ok_so _

pub handed_reason : (s : Tracked) (w : WideRecord) (why : WideWhy) → translated_by s w ≡ Err why → IsReason why
handed_reason s w = (handed_so s w).by
