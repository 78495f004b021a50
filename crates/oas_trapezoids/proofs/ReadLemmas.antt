-- What a reader of the returned records has after one more of them.
use Rattle.std.proofs.Common.{◌≡◌, ℕ, Bool, true, false, refl, ap, sym, ◌∙◌}
use Rattle.std.specs.Prelude.{cond, unwrap_or, ◌&&◌, Option, None}
use Rattle.std.specs.Option.{option_or}
use Rattle.oas_shape.specs.declared.repetitions.Repetition.{Repetition}
use Rattle.oas_shape.specs.Polylines.{Polyline}
use Rattle.oas_record.specs.declared.records.Record.{Record}
use Rattle.oas_record.specs.declared.records.Record.TheVariants as record_of
use Rattle.oas_drawing.specs.declared.positions.Position.{Position}
use Rattle.oas_drawing.specs.GivenFields.{GivenFields, given_fields}
use Rattle.oas_drawing.specs.Values.{new_repetition}
use Rattle.oas_drawing.specs.Modal.{ModalState, given, stepped}
use Rattle.oas_drawing.specs.Drawing.{is_geometry}
use Rattle.oas_trapezoids.specs.Tracked.{Tracked, placed}
use Rattle.oas_trapezoids.specs.Kept.{repetition_given, filled}
use Rattle.oas_trapezoids.specs.Laws.{AreKept, AreRead, read_all}
use Rattle.oas_trapezoids.proofs.DrawLemmas.{still_none, still_once, moved_same, start_same, end_same}

module _ (s : Tracked) (reader standard : ModalState) (a : AreRead reader standard) where
  -- the variables behind a record that gives so much; but those that are kept, and the mode, are these
  abbrev behind : GivenFields → (relative : Bool) (layer datatype width height : Option ℕ) (repetition : Option Repetition) (points : Option Polyline) (at : Position) → ModalState
  behind g relative layer datatype width height repetition points at =
      record (given reader g) {
        relative = relative;
        layer = layer;
        datatype = datatype;
        width = width;
        height = height;
        repetition = repetition;
        polygon_points = points;
        geometry = at;
      }

  read_so : (g : GivenFields) (relative : Bool) (layer datatype width height : Option ℕ) (repetition : Option Repetition) (points : Option Polyline) (at : Position)
      → relative ≡ unwrap_or g.relative standard.relative → ((given standard g).layer ≡ None → layer ≡ None) → ((given standard g).datatype ≡ None → datatype ≡ None)
      → ((given standard g).width ≡ None → width ≡ None) → ((given standard g).height ≡ None → height ≡ None) → ((given standard g).repetition ≡ None → repetition ≡ None)
      → AreRead (behind g relative layer datatype width height repetition points at) (given standard g)
  read_so g relative layer datatype width height repetition points at e l d w h p = record {
    cell = ap (option_or g.cell) a.cell;
    string = ap (option_or g.string) a.string;
    textlayer = ap (option_or g.textlayer) a.textlayer;
    texttype = ap (option_or g.texttype) a.texttype;
    path_points = ap (option_or g.path_points) a.path_points;
    half_width = ap (option_or g.half_width) a.half_width;
    start = start_same s reader standard a g;
    end = end_same s reader standard a g;
    radius = ap (option_or g.radius) a.radius;
    relative = e;
    placement = moved_same s reader standard a reader.placement standard.placement g.placement a.placement;
    text = moved_same s reader standard a reader.text standard.text g.text a.text;
    layer = l;
    datatype = d;
    width = w;
    height = h;
    repetition = p;
  }

  -- what is handed out of geometry
  module _ (g : GivenFields) (k : AreKept s (given standard g)) where
    layer_read : (given standard g).layer ≡ None → option_or s.layer reader.layer ≡ None
    layer_read = still_none s.layer reader.layer g.layer standard.layer k.layer a.layer

    datatype_read : (given standard g).datatype ≡ None → option_or s.datatype reader.datatype ≡ None
    datatype_read = still_none s.datatype reader.datatype g.datatype standard.datatype k.datatype a.datatype

    width_read : (given standard g).width ≡ None → option_or s.width reader.width ≡ None
    width_read = still_none s.width reader.width g.width standard.width k.width a.width

    height_read : (given standard g).height ≡ None → option_or s.height reader.height ≡ None
    height_read = still_none s.height reader.height (cond g.square (option_or g.width standard.width) g.height) standard.height k.height a.height

    repetition_read : (given standard g).repetition ≡ None → option_or (new_repetition (repetition_given s.repetition g.repetition)) reader.repetition ≡ None
    repetition_read = still_once s.repetition reader.repetition standard.repetition g.repetition k.repetition a.repetition

  -- A kind that sets no variable which is kept, but for what all geometry sets, needs no line here.
  read_by : (b : Bool) → s.place.relative ≡ b → (r : Record) → AreKept s (stepped standard r) → AreRead (read_all reader (placed (is_geometry r && b) (filled s r))) (stepped standard r)
  read_by b e record_of.Pad k = a
  read_by b e record_of.End k = a
  read_by b e (record_of.CellName name number) k = a
  read_by b e (record_of.TextString label number) k = a
  read_by b e (record_of.Cell cell) k = record {
    cell = refl;
    string = refl;
    textlayer = refl;
    texttype = refl;
    path_points = refl;
    half_width = refl;
    start = refl;
    end = refl;
    radius = refl;
    relative = refl;
    placement = refl;
    text = refl;
    layer = λ n. n;
    datatype = λ n. n;
    width = λ n. n;
    height = λ n. n;
    repetition = λ n. n;
  }
  read_by b e record_of.XyAbsolute k = read_so (given_fields record_of.XyAbsolute) _ _ _ _ _ _ _ _ refl a.layer a.datatype a.width a.height a.repetition
  read_by b e record_of.XyRelative k = read_so (given_fields record_of.XyRelative) _ _ _ _ _ _ _ _ refl a.layer a.datatype a.width a.height a.repetition
  read_by b e (record_of.Placement p) k =
      let g = given_fields (record_of.Placement p) in
      read_so g _ _ _ _ _ _ _ _ a.relative a.layer a.datatype a.width a.height (repetition_read g k)
  read_by b e (record_of.Text t) k =
      let g = given_fields (record_of.Text t) in
      read_so g _ _ _ _ _ _ _ _ a.relative a.layer a.datatype a.width a.height (repetition_read g k)
  read_by true e (record_of.Rectangle r) k =
      let g = given_fields (record_of.Rectangle r) in
      read_so g _ _ _ _ _ _ _ _ (sym e ∙ k.relative) (layer_read g k) (datatype_read g k) (width_read g k) (height_read g k) (repetition_read g k)
  read_by false e (record_of.Rectangle r) k =
      let g = given_fields (record_of.Rectangle r) in
      read_so g _ _ _ _ _ _ _ _ a.relative (layer_read g k) (datatype_read g k) (width_read g k) (height_read g k) (repetition_read g k)
  read_by true e r k =
      read_so (given_fields r) _ _ _ _ _ _ _ _ (sym e ∙ k.relative) (layer_read (given_fields r) k) (datatype_read (given_fields r) k) a.width a.height (repetition_read (given_fields r) k)
  read_by false e r k =
      read_so (given_fields r) _ _ _ _ _ _ _ _ a.relative (layer_read (given_fields r) k) (datatype_read (given_fields r) k) a.width a.height (repetition_read (given_fields r) k)

  pub record_read : (r : Record) → AreKept s (stepped standard r) → AreRead (read_all reader (placed (is_geometry r && s.place.relative) (filled s r))) (stepped standard r)
  record_read r k = read_by s.place.relative refl r k
