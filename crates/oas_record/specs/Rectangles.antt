-- How a rectangle is spelled, after its id (SEMI P39, RECTANGLE record).
use Rattle.std.proofs.Common.{◌≡◌, ◌≢◌, ℕ, List, Option}
use Rattle.std.specs.Prelude.{bit_and}
use Rattle.oas_num.specs.Style.{Style}
use Rattle.oas_num.specs.declared.refusals.Why.{Why}
use Rattle.oas_record.specs.declared.rectangles.Rectangle.{Rectangle}
use Rattle.oas_record.specs.declared.spots.Spot.{Spot}
use Rattle.oas_record.specs.Found.{settled_number, settled_not}
use Rattle.oas_record.specs.Info.{has}
use Rattle.oas_record.specs.Kinds.{Kind, spelled_in, number}
use Rattle.oas_record.specs.Trees.{pair, there, image, info_byte, info_is}
use Rattle.oas_record.specs.Fields.{Layers, layers, spot}

abbrev pub RectangleFields : Type 0
RectangleFields = Layers × (Option ℕ × (Option ℕ × Spot))

-- a square gives no height
abbrev pub IsRectangleInfo : ℕ → Type 0
IsRectangleInfo info = bit_and info 160 ≢ 160

pub zero_allowed : IsRectangleInfo 0
zero_allowed e = cc

-- width, height, x, y, datatype and layer are given
abbrev pub IsCanonicalRectangle : ℕ → Type 0
IsCanonicalRectangle info = info ≡ 0x7B

-- SWHXYRDL
abbrev pub rectangle_parts : ℕ → Kind RectangleFields
rectangle_parts info =
    pair (layers info) (λ _.
    pair (there (has info 64) number) (λ _.
    pair (there (has info 32) number) (λ _.
    spot (has info 16) (has info 8) (has info 4))))

abbrev pub rectangle_fields : Style → ℕ → RectangleFields → List ℕ → Type 0
rectangle_fields style info = spelled_in style (rectangle_parts info)

abbrev pub rectangle_of : ℕ × RectangleFields → Rectangle
rectangle_of p = record { square = has p.0 128; layer = p.1.0.0; datatype = p.1.0.1; width = p.1.1.0; height = p.1.1.1.0; spot = p.1.1.1.1 }

abbrev rectangle_back : Rectangle → ℕ × RectangleFields
rectangle_back c = (0x7B, ((c.layer, c.datatype), (c.width, (c.height, c.spot))))

abbrev pub rectangle_kind : Kind Rectangle
rectangle_kind =
    image rectangle_of rectangle_back (pair (info_byte IsRectangleInfo IsCanonicalRectangle (λ info. settled_not (settled_number (bit_and info 160) 160)) zero_allowed) rectangle_parts)
    (λ u bytes p. info_is u p.first.holds.1)

abbrev pub rectangle_in : Style → Rectangle → List ℕ → Type 0
rectangle_in style = spelled_in style rectangle_kind

-- where a read of a rectangle may fail: in its info byte, or in a field that this gives, with those before it whole
abbrev pub RectangleTook : Why → List ℕ → Type 0
RectangleTook = rectangle_kind.took
