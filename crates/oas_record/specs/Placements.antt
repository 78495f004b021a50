-- How placements are spelled, after their ids (SEMI P39, PLACEMENT records).
use Rattle.std.proofs.Common.{◌≡◌, ℕ, ◌+◌, ◌*◌, ◌/◌, ◌%◌, ◌<◌, ◌≤◌, Bool, true, false, List, Option, inl, inr, refl, ap, arith}
use Rattle.std.specs.Prelude.{◌==◌}
use Rattle.std.proofs.lemmas.Bool.{cases_lt}
use Rattle.oas_num.specs.Style.{Style}
use Rattle.oas_num.specs.declared.reals.Real.{Real}
use Rattle.oas_num.specs.declared.refusals.Why.{Why}
use Rattle.oas_record.specs.declared.placements.Placement.{Placement}
use Rattle.oas_record.specs.declared.placements.Turn.{Turn}
use Rattle.oas_record.specs.declared.placements.Turn.TheVariants.{Quarters, Degrees}
use Rattle.oas_record.specs.declared.references.CellRef.{CellRef}
use Rattle.oas_record.specs.declared.spots.Spot.{Spot}
use Rattle.oas_record.specs.FoundParts.{settled_below}
use Rattle.oas_record.specs.Info.{has}
use Rattle.oas_record.specs.Kinds.{Kind, spelled_in, real}
use Rattle.oas_record.specs.Trees.{pair, there, image, image_any, info_byte}
use Rattle.oas_record.specs.References.{cell_kind}
use Rattle.oas_record.specs.Fields.{spot}

-- any info byte is one
abbrev pub IsPlacementInfo : ℕ → Type 0
IsPlacementInfo info = info < 256

pub zero_allowed : IsPlacementInfo 0
zero_allowed = omega arith

-- the cell by its name, x and y are given, and no repetition
abbrev pub IsCanonicalPlacement : ℕ → Type 0
IsCanonicalPlacement info = (176 ≤ info) × (info < 184)

-- ---- after the id 17

abbrev pub QuarterFields : Type 0
QuarterFields = Option CellRef × Spot

-- CNXYRAAF
abbrev pub quarter_parts : ℕ → Kind QuarterFields
quarter_parts info =
    pair (there (has info 128) (cell_kind (has info 64))) (λ _.
    spot (has info 32) (has info 16) (has info 8))

abbrev pub quarter_fields : Style → ℕ → QuarterFields → List ℕ → Type 0
quarter_fields style info = spelled_in style (quarter_parts info)

-- bits 1 and 2 are the quarter turns, bit 0 the flip
abbrev pub quarters_of : ℕ × QuarterFields → Placement
quarters_of p = record { cell = p.1.0; turn = Quarters (p.0 / 2 % 4); flip = p.0 % 2 == 1; spot = p.1.1 }

abbrev turns_of : Turn → ℕ
turns_of (Quarters turns) = turns
turns_of (Degrees magnification angle) = 0

abbrev flip_of : Bool → ℕ
flip_of true = 1
flip_of false = 0

abbrev quarter_back : Placement → ℕ × QuarterFields
quarter_back c = (176 + 2 * turns_of c.turn + flip_of c.flip, (c.cell, c.spot))

flip_is : (n : ℕ) → flip_of (n % 2 == 1) ≡ n % 2
flip_is n =
    elim (cases_lt (n % 2) 1) [
      | inl small ↦ let e : n % 2 ≡ 0 = omega (arith, small) in rw e refl
      | inr large ↦ let e : n % 2 ≡ 1 = omega (arith, large) in rw e refl
    ]

info_back : (info : ℕ) → IsCanonicalPlacement info → 176 + 2 * (info / 2 % 4) + flip_of (info % 2 == 1) ≡ info
info_back info h = rw (flip_is info) (omega (arith, h.0, h.1))

pub quarters_back : (u : ℕ × QuarterFields) → IsCanonicalPlacement u.0 → quarter_back (quarters_of u) ≡ u
quarters_back u h = ap (λ (info : ℕ). let v : ℕ × QuarterFields = (info, u.1) in v) (info_back u.0 h)

abbrev pub quarters_kind : Kind Placement
quarters_kind =
    image quarters_of quarter_back (pair (info_byte IsPlacementInfo IsCanonicalPlacement (λ info. settled_below info 256) zero_allowed) quarter_parts)
    (λ u bytes p. quarters_back u p.first.holds.1)

abbrev pub quarters_in : Style → Placement → List ℕ → Type 0
quarters_in style = spelled_in style quarters_kind

-- where a read of a placement may fail: in its info byte, or in a field that this gives, with those before it whole
abbrev pub QuarterTook : Why → List ℕ → Type 0
QuarterTook = quarters_kind.took

-- ---- after the id 18: in no canonical file

abbrev pub DegreeFields : Type 0
DegreeFields = Option CellRef × (Option Real × (Option Real × Spot))

-- CNXYRMAF
abbrev pub degree_parts : ℕ → Kind DegreeFields
degree_parts info =
    pair (there (has info 128) (cell_kind (has info 64))) (λ _.
    pair (there (has info 4) real) (λ _.
    pair (there (has info 2) real) (λ _.
    spot (has info 32) (has info 16) (has info 8))))

-- bit 0 is the flip
abbrev pub degrees_of : ℕ × DegreeFields → Placement
degrees_of p = record { cell = p.1.0; turn = Degrees p.1.1.0 p.1.1.1.0; flip = p.0 % 2 == 1; spot = p.1.1.1.1 }

abbrev pub degrees_kind : Kind Placement
degrees_kind = image_any degrees_of (pair (info_byte IsPlacementInfo IsPlacementInfo (λ info. settled_below info 256) zero_allowed) degree_parts)

abbrev pub degrees_in : Style → Placement → List ℕ → Type 0
degrees_in style = spelled_in style degrees_kind

abbrev pub DegreeTook : Why → List ℕ → Type 0
DegreeTook = degrees_kind.took
