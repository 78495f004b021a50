-- A record of the profile is translated to itself.
use Rattle.std.proofs.Common.{◌≡◌, Bool, Option, None, Some, refl}
use Rattle.std.specs.Option.{option_map}
use Rattle.oas_num.specs.declared.reals.Real.{Real}
use Rattle.oas_record.specs.declared.placements.Turn.{Turn}
use Rattle.oas_record.specs.declared.placements.Turn.TheVariants.{Quarters, Degrees}
use Rattle.oas_record.specs.declared.records.Record.{Record}
use Rattle.oas_record.specs.declared.records.Record.TheVariants as record_of
use Rattle.oas_record.specs.declared.references.CellRef.{CellRef}
use Rattle.oas_record.specs.declared.spots.Spot.{Spot}
use Rattle.oas_block.specs.Reals.{wide_of}
use Rattle.oas_block.specs.WideRecords.{inner_widened}
use Rattle.oas_block.specs.WideRecord.TheVariants as wide
use Rattle.oas_narrow.specs.Placements.{magnification_of, angle_of, with_turns}
use Rattle.oas_narrow.specs.Roles.{plain_role, role_of}

magnification_same : (m : Option Real) → option_map magnification_of (option_map wide_of m) ≡ m
magnification_same None = refl
magnification_same (Some m) = refl

angle_same : (a : Option Real) → option_map angle_of (option_map wide_of a) ≡ a
angle_same None = refl
angle_same (Some a) = refl

placement_kept : (c : Option CellRef) (turn : Turn) (flip : Bool) (at : Spot) →
    let r : Record = record_of.Placement (record { cell = c; turn = turn; flip = flip; spot = at }) in with_turns (inner_widened r) ≡ wide.Profile r
placement_kept c (Quarters turns) flip at = refl
placement_kept c (Degrees m a) flip at = λ i. wide.Profile (record_of.Placement (record { cell = c; turn = Degrees (magnification_same m i) (angle_same a i); flip = flip; spot = at }))

pub kept : (r : Record) → with_turns (inner_widened r) ≡ wide.Profile r
kept (record_of.Placement p) = placement_kept p.cell p.turn p.flip p.spot
kept _ = refl

-- ---- the role of a record of the profile

placement_role : (c : Option CellRef) (turn : Turn) (flip : Bool) (at : Spot) →
    let r : Record = record_of.Placement (record { cell = c; turn = turn; flip = flip; spot = at }) in role_of (inner_widened r) ≡ plain_role r
placement_role c (Quarters turns) flip at = refl
placement_role c (Degrees m a) flip at = refl

pub plain : (r : Record) → role_of (inner_widened r) ≡ plain_role r
plain (record_of.Placement p) = placement_role p.cell p.turn p.flip p.spot
plain _ = refl
