-- What the returned records draw.
use Rattle.std.proofs.Common.{◌≡◌, ℕ, Bool, true, false, refl, ap, sym, ◌∙◌}
use Rattle.std.specs.Prelude.{ℤ, ◌&&◌, is_some, is_none, cond, unwrap_or, Option, Some, None}
use Rattle.std.specs.Option.{option_or}
use Rattle.oas_num.specs.declared.deltas.GDelta.{GDelta}
use Rattle.oas_shape.specs.declared.repetitions.Repetition.{Repetition}
use Rattle.oas_shape.specs.declared.repetitions.RepField.{RepField}
use Rattle.oas_shape.specs.declared.repetitions.RepField.TheVariants.{Again, New}
use Rattle.oas_shape.specs.Polylines.{Polyline}
use Rattle.oas_record.specs.declared.polygons.Polygon.{Polygon as OnePolygon}
use Rattle.oas_record.specs.declared.spots.Spot.{Spot}
use Rattle.oas_record.specs.declared.records.Record.{Record}
use Rattle.oas_record.specs.declared.records.Record.TheVariants as record_of
use Rattle.oas_drawing.specs.declared.kinds.Kind.TheVariants.{Polygon}
use Rattle.oas_drawing.specs.declared.positions.Position.{Position}
use Rattle.oas_drawing.specs.GivenFields.{GivenFields, given_fields}
use Rattle.oas_drawing.specs.Values.{new_repetition, start_number, end_number}
use Rattle.oas_drawing.specs.Modal.{ModalState, moved_by, given, stepped}
use Rattle.oas_drawing.specs.Drawing.{kind_of, drawn_by, drawn_if, offsets_if}
use Rattle.oas_trapezoids.specs.Tracked.{Tracked}
use Rattle.oas_trapezoids.specs.Kept.{repetition_given, lacks_points}
use Rattle.oas_trapezoids.specs.Laws.{AreKept, AreRead, DrawsTheSame}

-- a value that is given in place of a variable's
filled_is : {A : Type 0} (kept mine own old : Option A) → kept ≡ option_or own old → (old ≡ None → mine ≡ None) → option_or kept mine ≡ option_or own old
filled_is kept mine (Some v) old e n = ap (λ k. option_or k mine) e
filled_is kept mine None (Some v) e n = ap (λ k. option_or k mine) e
filled_is kept mine None None e n = ap (λ k. option_or k mine) e ∙ n refl

-- the points of a polygon, which has some
points_are : (kept mine own old : Option Polyline) → kept ≡ option_or own old → (is_none own && is_none kept) ≡ false → option_or (option_or own kept) mine ≡ option_or own old
points_are kept mine (Some v) old e h = refl
points_are (Some v) mine None old e h = e
points_are None mine None old e h = cc

-- the copies
copies_are : (kept mine old : Option Repetition) (field : Option RepField) → kept ≡ option_or (new_repetition field) old → (old ≡ None → mine ≡ None) →
    offsets_if (is_some (repetition_given kept field)) (option_or (new_repetition (repetition_given kept field)) mine) ≡ offsets_if (is_some field) (option_or (new_repetition field) old)
copies_are (Some k) mine old None e n = refl
copies_are None mine old None e n = refl
copies_are (Some k) mine old (Some (New repetition)) e n = refl
copies_are None mine old (Some (New repetition)) e n = refl
copies_are (Some k) mine old (Some Again) e n = ap (offsets_if true) e
copies_are None mine old (Some Again) e n = ap (offsets_if true) (n (sym e)) ∙ ap (offsets_if true) e

-- a value that is undefined by the standard
pub still_none : {A : Type 0} (kept mine own old : Option A) → kept ≡ option_or own old → (old ≡ None → mine ≡ None) → option_or own old ≡ None → option_or kept mine ≡ None
still_none kept mine own old e n h = filled_is kept mine own old e n ∙ h

-- the repetition, if it is
pub still_once : (kept mine old : Option Repetition) (field : Option RepField) → kept ≡ option_or (new_repetition field) old → (old ≡ None → mine ≡ None) →
    option_or (new_repetition field) old ≡ None → option_or (new_repetition (repetition_given kept field)) mine ≡ None
still_once (Some k) mine old None e n h = n h
still_once None mine old None e n h = n h
still_once (Some k) mine old (Some (New repetition)) e n h = cc
still_once None mine old (Some (New repetition)) e n h = cc
still_once (Some k) mine old (Some Again) e n h = cc
still_once None mine old (Some Again) e n h = n h

-- ---- records

abbrev position_at : ℤ → ℤ → Position
position_at x y = record { x = x; y = y }

module _ (s : Tracked) (reader standard : ModalState) (a : AreRead reader standard) where
  -- a position that no other class shares
  pub moved_same : (p q : Position) (spot : Spot) → p ≡ q → moved_by reader.relative p spot ≡ moved_by standard.relative q spot
  moved_same p q spot e = ap (λ (b : Bool). moved_by b p spot) a.relative ∙ ap (λ (p : Position). moved_by standard.relative p spot) e

  pub start_same : (g : GivenFields) → option_or (start_number (option_or g.half_width reader.half_width) g.extensions) reader.start ≡ option_or (start_number (option_or g.half_width standard.half_width) g.extensions) standard.start
  start_same g =
      ap (λ (w : Option ℕ). option_or (start_number (option_or g.half_width w) g.extensions) reader.start) a.half_width
      ∙ ap (option_or (start_number (option_or g.half_width standard.half_width) g.extensions)) a.start

  pub end_same : (g : GivenFields) → option_or (end_number (option_or g.half_width reader.half_width) g.extensions) reader.end ≡ option_or (end_number (option_or g.half_width standard.half_width) g.extensions) standard.end
  end_same g =
      ap (λ (w : Option ℕ). option_or (end_number (option_or g.half_width w) g.extensions) reader.end) a.half_width
      ∙ ap (option_or (end_number (option_or g.half_width standard.half_width) g.extensions)) a.end

  -- The variables by which a record is drawn, of which it is handed all those that are kept; but the points of a polygon are those of the
  -- standard. They are those of the standard.
  abbrev handed : GivenFields → ModalState
  handed g =
      record (given reader g) {
        layer = option_or s.layer reader.layer;
        datatype = option_or s.datatype reader.datatype;
        width = option_or s.width reader.width;
        height = option_or s.height reader.height;
        polygon_points = option_or g.polygon_points standard.polygon_points;
        repetition = option_or (new_repetition g.repetition) standard.repetition;
        relative = unwrap_or g.relative standard.relative;
        geometry = position_at s.place.x s.place.y;
      }

  handed_same : (g : GivenFields) → AreKept s (given standard g) → handed g ≡ given standard g
  handed_same g k i =
      record (given standard g) {
        cell = option_or g.cell (a.cell i);
        string = option_or g.string (a.string i);
        textlayer = option_or g.textlayer (a.textlayer i);
        texttype = option_or g.texttype (a.texttype i);
        layer = filled_is s.layer reader.layer g.layer standard.layer k.layer a.layer i;
        datatype = filled_is s.datatype reader.datatype g.datatype standard.datatype k.datatype a.datatype i;
        width = filled_is s.width reader.width g.width standard.width k.width a.width i;
        height = filled_is s.height reader.height (cond g.square (option_or g.width standard.width) g.height) standard.height k.height a.height i;
        path_points = option_or g.path_points (a.path_points i);
        half_width = option_or g.half_width (a.half_width i);
        start = start_same g i;
        end = end_same g i;
        radius = option_or g.radius (a.radius i);
        placement = moved_same reader.placement standard.placement g.placement a.placement i;
        text = moved_same reader.text standard.text g.text a.text i;
        geometry = record { x = k.x i; y = k.y i };
      }

  polygon_same : (p : OnePolygon) → AreKept s (stepped standard (record_of.Polygon p)) → (is_none p.points && is_none s.polygon_points) ≡ false → DrawsTheSame s reader standard (record_of.Polygon p)
  polygon_same p k h =
      let g = given_fields (record_of.Polygon p) in
      record {
        element = λ d i. drawn_by (record (handed_same g k i) { polygon_points = points_are s.polygon_points reader.polygon_points p.points standard.polygon_points k.polygon_points h i }) Polygon d;
        offsets = copies_are s.repetition reader.repetition standard.repetition p.spot.repetition k.repetition a.repetition;
      }

  -- A kind that takes its values from variables which no trapezoid sets, or from those that are kept, needs no line here.
  pub record_same : (r : Record) → AreKept s (stepped standard r) → (lacks_points r && is_none s.polygon_points) ≡ false → DrawsTheSame s reader standard r
  record_same record_of.Pad k h = record { element = λ d. refl; offsets = refl }
  record_same record_of.End k h = record { element = λ d. refl; offsets = refl }
  record_same (record_of.CellName name number) k h = record { element = λ d. refl; offsets = refl }
  record_same (record_of.TextString label number) k h = record { element = λ d. refl; offsets = refl }
  record_same (record_of.Cell cell) k h = record { element = λ d. refl; offsets = refl }
  record_same record_of.XyAbsolute k h = record { element = λ d. refl; offsets = refl }
  record_same record_of.XyRelative k h = record { element = λ d. refl; offsets = refl }
  record_same (record_of.Polygon p) k h = polygon_same p k h
  record_same r k h = record {
    element = λ d i. drawn_if (handed_same (given_fields r) k i) (kind_of r) d;
    offsets = copies_are s.repetition reader.repetition standard.repetition (given_fields r).repetition k.repetition a.repetition;
  }
