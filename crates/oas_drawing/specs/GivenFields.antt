-- What a record gives, kind by kind (SEMI P39, element records, XYABSOLUTE and XYRELATIVE). Everything else is about these
-- fields alone.
use Rattle.std.specs.Prelude.{ℕ, Option, None, Some, Bool, true, false}
use Rattle.oas_shape.specs.declared.repetitions.RepField.{RepField}
use Rattle.oas_shape.specs.Polylines.{Polyline}
use Rattle.oas_record.specs.declared.references.CellRef.{CellRef}
use Rattle.oas_record.specs.declared.references.TextRef.{TextRef}
use Rattle.oas_record.specs.declared.spots.Spot.{Spot}
use Rattle.oas_record.specs.declared.paths.Extensions.{Extensions}
use Rattle.oas_record.specs.declared.records.Record.{Record}
use Rattle.oas_record.specs.declared.records.Record.TheVariants as record_of
use Rattle.oas_drawing.specs.declared.kinds.Kind.{Kind}
use Rattle.oas_drawing.specs.declared.kinds.Kind.TheVariants.{Placement, Text, Rectangle, Polygon, Path, Circle}

pub record GivenFields : Type 0 where
  -- the kind of an element record, with its fields that no variable keeps
  pub kind : Option Kind
  -- its coordinates, with the position that they set or shift
  pub placement : Spot
  pub text : Spot
  pub geometry : Spot
  pub repetition : Option RepField
  pub cell : Option CellRef
  pub string : Option TextRef
  pub textlayer : Option ℕ
  pub texttype : Option ℕ
  pub layer : Option ℕ
  pub datatype : Option ℕ
  -- a square gives no height, which is then its width
  pub square : Bool
  pub width : Option ℕ
  pub height : Option ℕ
  pub polygon_points : Option Polyline
  pub path_points : Option Polyline
  pub half_width : Option ℕ
  pub extensions : Option Extensions
  pub radius : Option ℕ
  -- xy-mode: whether coordinates are relative
  pub relative : Option Bool

abbrev pub no_spot : Spot
no_spot = record { x = None; y = None; repetition = None }

abbrev pub nothing : GivenFields
nothing =
    record {
      kind = None;
      placement = no_spot;
      text = no_spot;
      geometry = no_spot;
      repetition = None;
      cell = None;
      string = None;
      textlayer = None;
      texttype = None;
      layer = None;
      datatype = None;
      square = false;
      width = None;
      height = None;
      polygon_points = None;
      path_points = None;
      half_width = None;
      extensions = None;
      radius = None;
      relative = None;
    }

abbrev pub given_fields : Record → GivenFields
given_fields record_of.XyAbsolute = record nothing { relative = Some false }
given_fields record_of.XyRelative = record nothing { relative = Some true }
given_fields (record_of.Placement p) = record nothing { kind = Some (Placement p.turn p.flip); placement = p.spot; repetition = p.spot.repetition; cell = p.cell }
given_fields (record_of.Text t) =
    record nothing { kind = Some Text; text = t.spot; repetition = t.spot.repetition; string = t.string; textlayer = t.textlayer; texttype = t.texttype }
given_fields (record_of.Rectangle r) =
    record nothing {
      kind = Some Rectangle;
      geometry = r.spot;
      repetition = r.spot.repetition;
      layer = r.layer;
      datatype = r.datatype;
      square = r.square;
      width = r.width;
      height = r.height;
    }
given_fields (record_of.Polygon p) =
    record nothing { kind = Some Polygon; geometry = p.spot; repetition = p.spot.repetition; layer = p.layer; datatype = p.datatype; polygon_points = p.points }
given_fields (record_of.Path p) =
    record nothing {
      kind = Some Path;
      geometry = p.spot;
      repetition = p.spot.repetition;
      layer = p.layer;
      datatype = p.datatype;
      path_points = p.points;
      half_width = p.half_width;
      extensions = p.extensions;
    }
given_fields (record_of.Circle c) =
    record nothing { kind = Some Circle; geometry = c.spot; repetition = c.spot.repetition; layer = c.layer; datatype = c.datatype; radius = c.radius }
given_fields _ = nothing

-- a record of geometry, with these in the place of what all geometry gives
abbrev pub with_geometry : Option ℕ → Option ℕ → Spot → Record → Record
with_geometry layer datatype spot (record_of.Rectangle r) = record_of.Rectangle (record r { layer = layer; datatype = datatype; spot = spot })
with_geometry layer datatype spot (record_of.Polygon p) = record_of.Polygon (record p { layer = layer; datatype = datatype; spot = spot })
with_geometry layer datatype spot (record_of.Path p) = record_of.Path (record p { layer = layer; datatype = datatype; spot = spot })
with_geometry layer datatype spot (record_of.Circle c) = record_of.Circle (record c { layer = layer; datatype = datatype; spot = spot })
with_geometry layer datatype spot r = r
