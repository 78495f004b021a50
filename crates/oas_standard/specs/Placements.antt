-- How placements by reals are spelled, after their id (SEMI P39, PLACEMENT records).
use Rattle.std.proofs.Common.{ℕ, ◌%◌, List, Option}
use Rattle.std.specs.Option.{option_map}
use Rattle.std.specs.Prelude.{◌==◌}
use Rattle.oas_num.specs.declared.reals.Real.{Real}
use Rattle.oas_num.specs.declared.refusals.Why.{Why}
use Rattle.oas_record.specs.declared.placements.Placement.{Placement}
use Rattle.oas_record.specs.declared.references.CellRef.{CellRef}
use Rattle.oas_record.specs.declared.spots.Spot.{Spot}
use Rattle.oas_record.specs.Fields.{spot}
use Rattle.oas_record.specs.Info.{has}
use Rattle.oas_record.specs.Kinds.{Kind, byte}
use Rattle.oas_record.specs.References.{cell_kind}
use Rattle.oas_record.specs.Trees.{pair, there, image_any}
use Rattle.oas_standard.specs.declared.placements.WidePlacement.{WidePlacement}
use Rattle.oas_standard.specs.declared.reals.WideReal.{WideReal}
use Rattle.oas_standard.specs.Reals.{wide_real, wide_of}

abbrev pub PlacementFields : Type 0
PlacementFields = Option CellRef × (Option WideReal × (Option WideReal × Spot))

-- CNXYRMAF
abbrev pub placement_parts : ℕ → Kind PlacementFields
placement_parts info =
    pair (there (has info 128) (cell_kind (has info 64))) (λ _.
    pair (there (has info 4) wide_real) (λ _.
    pair (there (has info 2) wide_real) (λ _.
    spot (has info 32) (has info 16) (has info 8))))

-- bit 0 is the flip
abbrev pub placement_of : ℕ × PlacementFields → WidePlacement
placement_of p = record { cell = p.1.0; magnification = p.1.1.0; angle = p.1.1.1.0; flip = p.0 % 2 == 1; spot = p.1.1.1.1 }

abbrev pub wide_placement : Kind WidePlacement
wide_placement = image_any placement_of (pair byte placement_parts)

abbrev pub SpellsPlacement : WidePlacement → List ℕ → Type 0
SpellsPlacement = wide_placement.any

-- where a read of a placement may fail
abbrev pub PlacementTook : Why → List ℕ → Type 0
PlacementTook = wide_placement.took

-- ---- placements of the profile

-- one with this magnification and this angle, among them
abbrev pub as_wide : Placement → Option Real → Option Real → WidePlacement
as_wide p magnification angle = record { cell = p.cell; magnification = option_map wide_of magnification; angle = option_map wide_of angle; flip = p.flip; spot = p.spot }
