-- How geometry of an extension is spelled, after its id (SEMI P39, XGEOMETRY record).
use Rattle.std.proofs.Common.{ℕ, ◌<◌, List, arith}
use Rattle.oas_num.specs.declared.refusals.Why.{Why}
use Rattle.oas_num.specs.declared.padding.Padding.{Padding}
use Rattle.oas_record.specs.declared.spots.Spot.{Spot}
use Rattle.oas_record.specs.Fields.{Layers, layers, spot}
use Rattle.oas_record.specs.FoundParts.{settled_below}
use Rattle.oas_record.specs.Info.{has}
use Rattle.oas_record.specs.Kinds.{Kind, padding}
use Rattle.oas_record.specs.Trees.{pair, image_any, info_byte}
use Rattle.oas_standard.specs.declared.extensions.ExtensionGeometry.{ExtensionGeometry}
use Rattle.oas_standard.specs.Long.{long_number}

-- bits 7 to 5 are 0
abbrev pub IsGeometryInfo : ℕ → Type 0
IsGeometryInfo info = info < 32

abbrev pub GeometryFields : Type 0
GeometryFields = ℕ × (Layers × (Padding × Spot))

-- 000XYRDL, the attribute in any number of bytes
abbrev pub geometry_parts : ℕ → Kind GeometryFields
geometry_parts info =
    pair long_number (λ _.
    pair (layers info) (λ _.
    pair padding (λ _.
    spot (has info 16) (has info 8) (has info 4))))

abbrev pub geometry_of : ℕ × GeometryFields → ExtensionGeometry
geometry_of p = record { attribute = p.1.0; layer = p.1.1.0.0; datatype = p.1.1.0.1; string = p.1.1.1.0; spot = p.1.1.1.1 }

abbrev pub extension_geometry : Kind ExtensionGeometry
extension_geometry = image_any geometry_of (pair (info_byte IsGeometryInfo IsGeometryInfo (λ info. settled_below info 32) (omega arith)) geometry_parts)

abbrev pub SpellsGeometry : ExtensionGeometry → List ℕ → Type 0
SpellsGeometry = extension_geometry.any

-- where a read may fail
abbrev pub GeometryTook : Why → List ℕ → Type 0
GeometryTook = extension_geometry.took
