-- How a polygon is spelled, after its id (SEMI P39, POLYGON record).
use Rattle.std.proofs.Common.{◌≡◌, ℕ, ◌<◌, List, Option, arith}
use Rattle.oas_num.specs.Style.{Style}
use Rattle.oas_num.specs.declared.refusals.Why.{Why}
use Rattle.oas_shape.specs.declared.list_use.ListUse.TheVariants as uses
use Rattle.oas_shape.specs.Polylines.{Polyline}
use Rattle.oas_record.specs.declared.polygons.Polygon.{Polygon}
use Rattle.oas_record.specs.declared.spots.Spot.{Spot}
use Rattle.oas_record.specs.FoundParts.{settled_below}
use Rattle.oas_record.specs.Info.{has}
use Rattle.oas_record.specs.Kinds.{Kind, spelled_in}
use Rattle.oas_record.specs.Trees.{pair, there, image, info_byte, info_is}
use Rattle.oas_record.specs.Fields.{Layers, layers, spot, points}

abbrev pub PolygonFields : Type 0
PolygonFields = Layers × (Option Polyline × Spot)

-- bits 7 and 6 are 0
abbrev pub IsPolygonInfo : ℕ → Type 0
IsPolygonInfo info = info < 64

pub zero_allowed : IsPolygonInfo 0
zero_allowed = omega arith

-- point list, x, y, datatype and layer are given
abbrev pub IsCanonicalPolygon : ℕ → Type 0
IsCanonicalPolygon info = info ≡ 0x3B

-- 00PXYRDL
abbrev pub polygon_parts : ℕ → Kind PolygonFields
polygon_parts info =
    pair (layers info) (λ _.
    pair (there (has info 32) (points uses.Polygon)) (λ _.
    spot (has info 16) (has info 8) (has info 4)))

abbrev pub polygon_fields : Style → ℕ → PolygonFields → List ℕ → Type 0
polygon_fields style info = spelled_in style (polygon_parts info)

abbrev pub polygon_of : ℕ × PolygonFields → Polygon
polygon_of p = record { layer = p.1.0.0; datatype = p.1.0.1; points = p.1.1.0; spot = p.1.1.1 }

abbrev polygon_back : Polygon → ℕ × PolygonFields
polygon_back c = (0x3B, ((c.layer, c.datatype), (c.points, c.spot)))

abbrev pub polygon_kind : Kind Polygon
polygon_kind =
    image polygon_of polygon_back (pair (info_byte IsPolygonInfo IsCanonicalPolygon (λ info. settled_below info 64) zero_allowed) polygon_parts)
    (λ u bytes p. info_is u p.first.holds.1)

abbrev pub polygon_in : Style → Polygon → List ℕ → Type 0
polygon_in style = spelled_in style polygon_kind

-- where a read of a polygon may fail: in its info byte, or in a field that this gives, with those before it whole
abbrev pub PolygonTook : Why → List ℕ → Type 0
PolygonTook = polygon_kind.took
