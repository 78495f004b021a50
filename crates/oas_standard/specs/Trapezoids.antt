-- How trapezoids are spelled, after their ids (SEMI P39, TRAPEZOID and CTRAPEZOID records).
use Rattle.std.proofs.Common.{ℕ, ℤ, ◌<◌, Bool, List, Option, arith}
use Rattle.oas_num.specs.declared.refusals.Why.{Why}
use Rattle.oas_num.specs.declared.refusals.Why.TheVariants.{InfoByte}
use Rattle.oas_num.specs.Pieces.{Unless}
use Rattle.oas_record.specs.declared.spots.Spot.{Spot}
use Rattle.oas_record.specs.Fields.{Layers, layers, spot}
use Rattle.oas_record.specs.FoundParts.{settled_below}
use Rattle.oas_record.specs.Info.{has}
use Rattle.oas_record.specs.Kinds.{Kind, byte, number, signed}
use Rattle.oas_record.specs.Trees.{IsTest, pair, there, such, image_any, number_test}
use Rattle.oas_standard.specs.declared.trapezoids.Trapezoid.{Trapezoid}
use Rattle.oas_standard.specs.declared.trapezoids.NamedTrapezoid.{NamedTrapezoid}

-- ---- TRAPEZOID

abbrev pub Deltas : Type 0
Deltas = Option ℤ × Option ℤ

abbrev pub TrapezoidFields : Type 0
TrapezoidFields = Layers × (Option ℕ × (Option ℕ × (Deltas × Spot)))

-- the deltas that an id gives: 23 both, 24 the first, 25 the second
abbrev pub deltas : Bool → Bool → Kind Deltas
deltas a b = pair (there a signed) (λ _. there b signed)

-- OWHXYRDL
abbrev pub trapezoid_parts : Bool → Bool → ℕ → Kind TrapezoidFields
trapezoid_parts a b info =
    pair (layers info) (λ _.
    pair (there (has info 64) number) (λ _.
    pair (there (has info 32) number) (λ _.
    pair (deltas a b) (λ _.
    spot (has info 16) (has info 8) (has info 4)))))

abbrev pub trapezoid_of : ℕ × TrapezoidFields → Trapezoid
trapezoid_of p = record {
  upright = has p.0 128;
  layer = p.1.0.0;
  datatype = p.1.0.1;
  width = p.1.1.0;
  height = p.1.1.1.0;
  delta_a = p.1.1.1.1.0.0;
  delta_b = p.1.1.1.1.0.1;
  spot = p.1.1.1.1.1;
}

abbrev pub trapezoid : Bool → Bool → Kind Trapezoid
trapezoid a b = image_any trapezoid_of (pair byte (trapezoid_parts a b))

abbrev pub SpellsTrapezoid : Bool → Bool → Trapezoid → List ℕ → Type 0
SpellsTrapezoid a b = (trapezoid a b).any

-- where a read of a trapezoid may fail
abbrev pub TrapezoidTook : Bool → Bool → Why → List ℕ → Type 0
TrapezoidTook a b = (trapezoid a b).took

-- ---- CTRAPEZOID

abbrev pub NamedFields : Type 0
NamedFields = Layers × (Option ℕ × (Option ℕ × (Option ℕ × Spot)))

-- the kinds that there are
abbrev pub IsShapeKind : ℕ → Type 0
IsShapeKind kind = kind < 26

pub shape_kind_test : IsTest number.any IsShapeKind (Unless IsShapeKind InfoByte)
shape_kind_test = number_test IsShapeKind InfoByte (λ kind. settled_below kind 26) (omega arith) (λ e. cc)

abbrev pub shape_kind : Kind ℕ
shape_kind = such number IsShapeKind (Unless IsShapeKind InfoByte) shape_kind_test

-- TWHXYRDL
abbrev pub named_parts : ℕ → Kind NamedFields
named_parts info =
    pair (layers info) (λ _.
    pair (there (has info 128) shape_kind) (λ _.
    pair (there (has info 64) number) (λ _.
    pair (there (has info 32) number) (λ _.
    spot (has info 16) (has info 8) (has info 4)))))

abbrev pub named_of : ℕ × NamedFields → NamedTrapezoid
named_of p = record {
  layer = p.1.0.0;
  datatype = p.1.0.1;
  kind = p.1.1.0;
  width = p.1.1.1.0;
  height = p.1.1.1.1.0;
  spot = p.1.1.1.1.1;
}

abbrev pub named_trapezoid : Kind NamedTrapezoid
named_trapezoid = image_any named_of (pair byte named_parts)

abbrev pub SpellsNamedTrapezoid : NamedTrapezoid → List ℕ → Type 0
SpellsNamedTrapezoid = named_trapezoid.any

-- where a read of a trapezoid of a kind may fail
abbrev pub NamedTrapezoidTook : Why → List ℕ → Type 0
NamedTrapezoidTook = named_trapezoid.took
