-- What a reader of the returned records has after a trapezoid, or geometry of an extension.
use Rattle.std.proofs.Common.{◌≡◌, ℕ, Bool, true, false, List, refl, ap, sym, subst, ◌∙◌}
use Rattle.std.specs.Prelude.{if◌then◌else◌, Option, Some, None, Result, Ok}
use Rattle.std.specs.Option.{option_or}
use Rattle.oas_record.specs.declared.spots.Spot.{Spot}
use Rattle.oas_record.specs.declared.records.Record.TheVariants as record_of
use Rattle.oas_ring.specs.declared.point.Point.{Point}
use Rattle.oas_drawing.specs.Positions.{IsNear}
use Rattle.oas_drawing.specs.Values.{new_repetition}
use Rattle.oas_drawing.specs.Modal.{ModalState, moved_by}
use Rattle.oas_trapezoids.specs.declared.corners.Corner.{Corner}
use Rattle.oas_trapezoids.specs.declared.sides.Sides.{Sides}
use Rattle.oas_standard.specs.declared.extensions.ExtensionGeometry.{ExtensionGeometry}
use Rattle.oas_standard.specs.declared.reasons.WideWhy.{WideWhy}
use Rattle.oas_standard.specs.declared.trapezoids.NamedTrapezoid.{NamedTrapezoid}
use Rattle.oas_standard.specs.declared.trapezoids.Trapezoid.{Trapezoid}
use Rattle.oas_trapezoids.specs.Tracked.{Tracked, drawn_by, placed}
use Rattle.oas_trapezoids.specs.Shapes.{is_box, points_of, polygon_of, rectangle_of, geometry_of}
use Rattle.oas_trapezoids.specs.Trapezoids.{box_at, modal_box, trapezoid_after, named_box, with_box, named_after}
use Rattle.oas_trapezoids.specs.Extensions.{geometry_after}
use Rattle.oas_trapezoids.specs.Laws.{AreKept, AreRead, read_all, passed_over, boxed}
use Rattle.oas_trapezoids.proofs.ModalLemmas.{x_kept, y_kept}
use Rattle.oas_trapezoids.proofs.DrawLemmas.{still_none, still_once}

never : (v : ℕ) (o : Option ℕ) → Some v ≡ None → o ≡ None
never v o h = cc

or_none : {A : Type 0} (own old : Option A) → option_or own old ≡ None → old ≡ None
or_none (Some v) old h = cc
or_none None old h = h

both_sides : (w h : Option ℕ) (box : Sides) → box_at w h ≡ Ok box → (w ≡ Some box.width) × (h ≡ Some box.height)
both_sides (Some w) (Some h) box e = (cc, cc)
both_sides (Some w) None box e = cc
both_sides None h box e = cc

-- ---- what is tracked

module _ (s : Tracked) (m : ModalState) (k : AreKept s m) where
  pub trapezoid_kept : (t : Trapezoid) (box : Sides) → modal_box (trapezoid_after s t) ≡ Ok box → IsNear (moved_by m.relative m.geometry t.spot) → AreKept (trapezoid_after s t) (boxed m t.layer t.datatype t.spot box)
  trapezoid_kept t box e near =
      let sides = both_sides (option_or t.width s.width) (option_or t.height s.height) box e in
      record {
        layer = ap (option_or t.layer) k.layer;
        datatype = ap (option_or t.datatype) k.datatype;
        width = sides.0;
        height = sides.1;
        polygon_points = k.polygon_points;
        repetition = ap (option_or (new_repetition t.spot.repetition)) k.repetition;
        relative = k.relative;
        x = x_kept s m k t.spot near;
        y = y_kept s m k t.spot near;
      }

  -- with the box known
  boxed_kept : (t : NamedTrapezoid) (box : Sides) → IsNear (moved_by m.relative m.geometry t.spot)
      → AreKept (with_box (record (drawn_by s t.layer t.datatype t.spot) { is_mixed = true; kind = option_or t.kind s.kind }) (Ok box)) (boxed m t.layer t.datatype t.spot box)
  boxed_kept t box near = record {
    layer = ap (option_or t.layer) k.layer;
    datatype = ap (option_or t.datatype) k.datatype;
    width = refl;
    height = refl;
    polygon_points = k.polygon_points;
    repetition = ap (option_or (new_repetition t.spot.repetition)) k.repetition;
    relative = k.relative;
    x = x_kept s m k t.spot near;
    y = y_kept s m k t.spot near;
  }

  pub named_kept : (t : NamedTrapezoid) (box : Sides) → named_box s t ≡ Ok box → IsNear (moved_by m.relative m.geometry t.spot) → AreKept (named_after s t) (boxed m t.layer t.datatype t.spot box)
  named_kept t box e near =
      subst (λ (found : Result Sides WideWhy). AreKept (with_box (record (drawn_by s t.layer t.datatype t.spot) { is_mixed = true; kind = option_or t.kind s.kind }) found) (boxed m t.layer t.datatype t.spot box)) (sym e)
      (boxed_kept t box near)

  pub extension_kept : (g : ExtensionGeometry) → IsNear (moved_by m.relative m.geometry g.spot) → AreKept (geometry_after s g) (passed_over m g)
  extension_kept g near = record {
    layer = ap (option_or g.layer) k.layer;
    datatype = ap (option_or g.datatype) k.datatype;
    width = k.width;
    height = k.height;
    polygon_points = k.polygon_points;
    repetition = ap (option_or (new_repetition g.spot.repetition)) k.repetition;
    relative = k.relative;
    x = x_kept s m k g.spot near;
    y = y_kept s m k g.spot near;
  }

-- ---- what a reader has

module _ (s : Tracked) (reader standard : ModalState) (a : AreRead reader standard) where
  pub extension_read : (g : ExtensionGeometry) → AreRead reader (passed_over standard g)
  extension_read g = record {
    cell = a.cell;
    string = a.string;
    textlayer = a.textlayer;
    texttype = a.texttype;
    path_points = a.path_points;
    half_width = a.half_width;
    start = a.start;
    end = a.end;
    radius = a.radius;
    relative = a.relative;
    placement = a.placement;
    text = a.text;
    layer = λ n. a.layer (or_none g.layer standard.layer n);
    datatype = λ n. a.datatype (or_none g.datatype standard.datatype n);
    width = a.width;
    height = a.height;
    repetition = λ n. a.repetition (or_none (new_repetition g.spot.repetition) standard.repetition n);
  }

  rectangle_read : (layer datatype : Option ℕ) (spot : Spot) (box : Sides) → AreKept s (boxed standard layer datatype spot box) → (b : Bool) → s.place.relative ≡ b → AreRead (read_all reader (placed b (record_of.Rectangle (rectangle_of s spot.repetition box)))) (boxed standard layer datatype spot box)
  rectangle_read layer datatype spot box k true e = record {
    cell = a.cell;
    string = a.string;
    textlayer = a.textlayer;
    texttype = a.texttype;
    path_points = a.path_points;
    half_width = a.half_width;
    start = a.start;
    end = a.end;
    radius = a.radius;
    relative = sym e ∙ k.relative;
    placement = a.placement;
    text = a.text;
    layer = still_none s.layer reader.layer layer standard.layer k.layer a.layer;
    datatype = still_none s.datatype reader.datatype datatype standard.datatype k.datatype a.datatype;
    width = λ n. n;
    height = λ n. n;
    repetition = still_once s.repetition reader.repetition standard.repetition spot.repetition k.repetition a.repetition;
  }
  rectangle_read layer datatype spot box k false e = record {
    cell = a.cell;
    string = a.string;
    textlayer = a.textlayer;
    texttype = a.texttype;
    path_points = a.path_points;
    half_width = a.half_width;
    start = a.start;
    end = a.end;
    radius = a.radius;
    relative = a.relative;
    placement = a.placement;
    text = a.text;
    layer = still_none s.layer reader.layer layer standard.layer k.layer a.layer;
    datatype = still_none s.datatype reader.datatype datatype standard.datatype k.datatype a.datatype;
    width = λ n. n;
    height = λ n. n;
    repetition = still_once s.repetition reader.repetition standard.repetition spot.repetition k.repetition a.repetition;
  }

  polygon_read : (layer datatype : Option ℕ) (spot : Spot) (box : Sides) (points : List Point) → AreKept s (boxed standard layer datatype spot box) → (b : Bool) → s.place.relative ≡ b → AreRead (read_all reader (placed b (record_of.Polygon (polygon_of s spot.repetition points)))) (boxed standard layer datatype spot box)
  polygon_read layer datatype spot box points k true e = record {
    cell = a.cell;
    string = a.string;
    textlayer = a.textlayer;
    texttype = a.texttype;
    path_points = a.path_points;
    half_width = a.half_width;
    start = a.start;
    end = a.end;
    radius = a.radius;
    relative = sym e ∙ k.relative;
    placement = a.placement;
    text = a.text;
    layer = still_none s.layer reader.layer layer standard.layer k.layer a.layer;
    datatype = still_none s.datatype reader.datatype datatype standard.datatype k.datatype a.datatype;
    width = never box.width reader.width;
    height = never box.height reader.height;
    repetition = still_once s.repetition reader.repetition standard.repetition spot.repetition k.repetition a.repetition;
  }
  polygon_read layer datatype spot box points k false e = record {
    cell = a.cell;
    string = a.string;
    textlayer = a.textlayer;
    texttype = a.texttype;
    path_points = a.path_points;
    half_width = a.half_width;
    start = a.start;
    end = a.end;
    radius = a.radius;
    relative = a.relative;
    placement = a.placement;
    text = a.text;
    layer = still_none s.layer reader.layer layer standard.layer k.layer a.layer;
    datatype = still_none s.datatype reader.datatype datatype standard.datatype k.datatype a.datatype;
    width = never box.width reader.width;
    height = never box.height reader.height;
    repetition = still_once s.repetition reader.repetition standard.repetition spot.repetition k.repetition a.repetition;
  }

  either_read : (layer datatype : Option ℕ) (spot : Spot) (box : Sides) (points : List Point) (whole : Bool) → AreKept s (boxed standard layer datatype spot box) →
      AreRead (read_all reader (placed s.place.relative (if whole then record_of.Rectangle (rectangle_of s spot.repetition box) else record_of.Polygon (polygon_of s spot.repetition points)))) (boxed standard layer datatype spot box)
  either_read layer datatype spot box points true k = rectangle_read layer datatype spot box k s.place.relative refl
  either_read layer datatype spot box points false k = polygon_read layer datatype spot box points k s.place.relative refl

  pub shape_read : (layer datatype : Option ℕ) (spot : Spot) (box : Sides) (corners : List Corner) → AreKept s (boxed standard layer datatype spot box) →
      AreRead (read_all reader (placed s.place.relative (geometry_of s spot.repetition box corners))) (boxed standard layer datatype spot box)
  shape_read layer datatype spot box corners k = either_read layer datatype spot box (points_of s.place corners) (is_box box corners) k
