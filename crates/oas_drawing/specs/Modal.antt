-- The modal variables together (SEMI P39, Modal variables), and how a record changes them.
use Rattle.std.specs.Prelude.{ℕ, ℤ, pos, ◌+ℤ◌, List, [], Option, None, Some, Bool, cond, unwrap_or}
use Rattle.std.specs.Option.{option_or}
use Rattle.oas_shape.specs.declared.repetitions.Repetition.{Repetition}
use Rattle.oas_shape.specs.Polylines.{Polyline}
use Rattle.oas_record.specs.declared.references.CellRef.{CellRef}
use Rattle.oas_record.specs.declared.references.TextRef.{TextRef}
use Rattle.oas_record.specs.declared.spots.Spot.{Spot}
use Rattle.oas_record.specs.declared.records.Record.{Record}
use Rattle.oas_drawing.specs.declared.positions.Position.{Position}
use Rattle.oas_drawing.specs.Looking.{is_cell, latest}
use Rattle.oas_drawing.specs.GivenFields.{GivenFields, given_fields}
use Rattle.oas_drawing.specs.Values.{field, given_width, given_height, given_half_width, given_start, given_end, new_repetition, start_number, end_number, is_relative}
use Rattle.oas_drawing.specs.Positions.{position}

pub record ModalState : Type 0 where
  pub repetition : Option Repetition
  pub cell : Option CellRef
  pub string : Option TextRef
  pub textlayer : Option ℕ
  pub texttype : Option ℕ
  pub layer : Option ℕ
  pub datatype : Option ℕ
  pub width : Option ℕ
  pub height : Option ℕ
  pub polygon_points : Option Polyline
  pub path_points : Option Polyline
  pub half_width : Option ℕ
  pub start : Option ℤ
  pub end : Option ℤ
  pub radius : Option ℕ
  pub relative : Bool
  pub placement : Position
  pub text : Position
  pub geometry : Position

-- the variables after these records, newest first
abbrev pub modal_of : List Record → ModalState
modal_of rs =
    record {
      repetition = latest (field (λ g. new_repetition g.repetition)) rs;
      cell = latest (field (λ g. g.cell)) rs;
      string = latest (field (λ g. g.string)) rs;
      textlayer = latest (field (λ g. g.textlayer)) rs;
      texttype = latest (field (λ g. g.texttype)) rs;
      layer = latest (field (λ g. g.layer)) rs;
      datatype = latest (field (λ g. g.datatype)) rs;
      width = latest given_width rs;
      height = latest given_height rs;
      polygon_points = latest (field (λ g. g.polygon_points)) rs;
      path_points = latest (field (λ g. g.path_points)) rs;
      half_width = latest given_half_width rs;
      start = latest given_start rs;
      end = latest given_end rs;
      radius = latest (field (λ g. g.radius)) rs;
      relative = is_relative rs;
      placement = position (λ g. g.placement) rs;
      text = position (λ g. g.text) rs;
      geometry = position (λ g. g.geometry) rs;
    }

abbrev pub origin : Position
origin = record { x = pos 0; y = pos 0 }

-- as a CELL leaves them
abbrev pub fresh : ModalState
fresh = modal_of []

-- an optional coordinate after another
abbrev pub moved : Bool → ℤ → Option ℤ → ℤ
moved relative at None = at
moved relative at (Some z) = cond relative (at +ℤ z) z

-- a position after a record's coordinates
abbrev pub moved_by : Bool → Position → Spot → Position
moved_by relative at spot = record { x = moved relative at.x spot.x; y = moved relative at.y spot.y }

-- the variables after one more record that gives this, and is no CELL
abbrev pub given : ModalState → GivenFields → ModalState
given s g =
    record {
      repetition = option_or (new_repetition g.repetition) s.repetition;
      cell = option_or g.cell s.cell;
      string = option_or g.string s.string;
      textlayer = option_or g.textlayer s.textlayer;
      texttype = option_or g.texttype s.texttype;
      layer = option_or g.layer s.layer;
      datatype = option_or g.datatype s.datatype;
      width = option_or g.width s.width;
      height = option_or (cond g.square (option_or g.width s.width) g.height) s.height;
      polygon_points = option_or g.polygon_points s.polygon_points;
      path_points = option_or g.path_points s.path_points;
      half_width = option_or g.half_width s.half_width;
      start = option_or (start_number (option_or g.half_width s.half_width) g.extensions) s.start;
      end = option_or (end_number (option_or g.half_width s.half_width) g.extensions) s.end;
      radius = option_or g.radius s.radius;
      relative = unwrap_or g.relative s.relative;
      placement = moved_by s.relative s.placement g.placement;
      text = moved_by s.relative s.text g.text;
      geometry = moved_by s.relative s.geometry g.geometry;
    }

-- the variables after one more record
abbrev pub stepped : ModalState → Record → ModalState
stepped s r = cond (is_cell r) fresh (given s (given_fields r))
