-- How a circle is spelled, after its id (SEMI P39, CIRCLE record).
use Rattle.std.proofs.Common.{◌≡◌, ℕ, ◌<◌, List, Option, arith}
use Rattle.oas_num.specs.Style.{Style}
use Rattle.oas_num.specs.declared.refusals.Why.{Why}
use Rattle.oas_record.specs.declared.circles.Circle.{Circle}
use Rattle.oas_record.specs.declared.spots.Spot.{Spot}
use Rattle.oas_record.specs.FoundParts.{settled_below}
use Rattle.oas_record.specs.Info.{has}
use Rattle.oas_record.specs.Kinds.{Kind, spelled_in, number}
use Rattle.oas_record.specs.Trees.{pair, there, image, info_byte, info_is}
use Rattle.oas_record.specs.Fields.{Layers, layers, spot}

abbrev pub CircleFields : Type 0
CircleFields = Layers × (Option ℕ × Spot)

-- bits 7 and 6 are 0
abbrev pub IsCircleInfo : ℕ → Type 0
IsCircleInfo info = info < 64

pub zero_allowed : IsCircleInfo 0
zero_allowed = omega arith

-- radius, x, y, datatype and layer are given
abbrev pub IsCanonicalCircle : ℕ → Type 0
IsCanonicalCircle info = info ≡ 0x3B

-- 00rXYRDL
abbrev pub circle_parts : ℕ → Kind CircleFields
circle_parts info =
    pair (layers info) (λ _.
    pair (there (has info 32) number) (λ _.
    spot (has info 16) (has info 8) (has info 4)))

abbrev pub circle_fields : Style → ℕ → CircleFields → List ℕ → Type 0
circle_fields style info = spelled_in style (circle_parts info)

abbrev pub circle_of : ℕ × CircleFields → Circle
circle_of p = record { layer = p.1.0.0; datatype = p.1.0.1; radius = p.1.1.0; spot = p.1.1.1 }

abbrev circle_back : Circle → ℕ × CircleFields
circle_back c = (0x3B, ((c.layer, c.datatype), (c.radius, c.spot)))

abbrev pub circle_kind : Kind Circle
circle_kind =
    image circle_of circle_back (pair (info_byte IsCircleInfo IsCanonicalCircle (λ info. settled_below info 64) zero_allowed) circle_parts)
    (λ u bytes p. info_is u p.first.holds.1)

abbrev pub circle_in : Style → Circle → List ℕ → Type 0
circle_in style = spelled_in style circle_kind

-- where a read of a circle may fail: in its info byte, or in a field that this gives, with those before it whole
abbrev pub CircleTook : Why → List ℕ → Type 0
CircleTook = circle_kind.took
