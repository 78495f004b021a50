-- The position of geometry (SEMI P39, Modal variables: geometry-x, geometry-y, xy-mode).
use Rattle.std.specs.Prelude.{ℤ, pos, ◌+ℤ◌, Bool, false, cond, ◌&&◌, Option, Some, None}
use Rattle.std.specs.Int.{saturate_signed, w64}
use Rattle.oas_trapezoids.specs.declared.corners.Corner.{Corner}
use Rattle.oas_elements.specs.Grid.{is_coordinate}
use Rattle.oas_record.specs.declared.spots.Spot.{Spot}
use Rattle.oas_ring.specs.declared.point.Point.{Point}
use Rattle.oas_trapezoids.specs.declared.places.Place.{Place}

-- as a CELL leaves it
abbrev pub origin : Place
origin = record { relative = false; x = pos 0; y = pos 0 }

-- An optional coordinate after another. One that exceeds 64 bits is replaced by the nearest one that doesn't.
abbrev pub coordinate_after : Bool → ℤ → Option ℤ → ℤ
coordinate_after relative at None = at
coordinate_after relative at (Some z) = cond relative (saturate_signed w64 (at +ℤ z)) z

-- the place after a record's coordinates
abbrev pub place_after : Place → Spot → Place
place_after place spot =
    record place {
      x = coordinate_after place.relative place.x spot.x;
      y = coordinate_after place.relative place.y spot.y;
    }

abbrev pub is_on_grid : Place → Bool
is_on_grid place = is_coordinate place.x && is_coordinate place.y

-- the place of a corner of a box with its lower left corner here
abbrev pub point_of : Place → Corner → Point
point_of place corner = record { x = place.x +ℤ pos corner.x; y = place.y +ℤ pos corner.y }
