-- How names of layers are spelled, after their ids (SEMI P39, LAYERNAME records).
use Rattle.std.proofs.Common.{ℕ, ◌<◌, not, List, Option, Some, None, arith}
use Rattle.std.specs.Prelude.{◌==◌, if◌then◌else◌}
use Rattle.oas_num.specs.declared.refusals.Why.{Why}
use Rattle.oas_num.specs.declared.refusals.Why.TheVariants.{InfoByte}
use Rattle.oas_num.specs.declared.padding.Padding.{Padding}
use Rattle.oas_num.specs.Pieces.{Unless}
use Rattle.oas_record.specs.FoundParts.{settled_below}
use Rattle.oas_record.specs.Kinds.{Kind, number, padding}
use Rattle.oas_record.specs.Trees.{IsTest, pair, there, such, image_any, number_test}
use Rattle.oas_standard.specs.declared.layer_names.Interval.{Interval}
use Rattle.oas_standard.specs.declared.layer_names.LayerName.{LayerName}

-- ---- intervals

-- the types that there are
abbrev pub IsIntervalType : ℕ → Type 0
IsIntervalType type = type < 5

pub interval_test : IsTest number.any IsIntervalType (Unless IsIntervalType InfoByte)
interval_test = number_test IsIntervalType InfoByte (λ type. settled_below type 5) (omega arith) (λ e. cc)

abbrev pub interval_type : Kind ℕ
interval_type = such number IsIntervalType (Unless IsIntervalType InfoByte) interval_test

-- type 0 has no bound, type 4 two, and the others one
abbrev pub Bounds : Type 0
Bounds = Option ℕ × Option ℕ

abbrev pub bounds : ℕ → Kind Bounds
bounds type = pair (there (not (type == 0)) number) (λ _. there (type == 4) number)

abbrev pub number_of : Option ℕ → ℕ
number_of None = 0
number_of (Some n) = n

-- 0: all; 1: up to the bound; 2: from the bound on; 3: only the bound; 4: from the first to the second
abbrev pub interval_by : ℕ → Option ℕ → Option ℕ → Interval
interval_by type first second =
    if type == 0 then record { low = 0; high = None }
    else if type == 1 then record { low = 0; high = first }
    else if type == 2 then record { low = number_of first; high = None }
    else if type == 3 then record { low = number_of first; high = first }
    else record { low = number_of first; high = second }

abbrev pub interval_of : ℕ × Bounds → Interval
interval_of p = interval_by p.0 p.1.0 p.1.1

abbrev pub interval : Kind Interval
interval = image_any interval_of (pair interval_type bounds)

abbrev pub SpellsInterval : Interval → List ℕ → Type 0
SpellsInterval = interval.any

abbrev pub IntervalTook : Why → List ℕ → Type 0
IntervalTook = interval.took

-- ---- names of layers

abbrev pub layer_name_of : Padding × (Interval × Interval) → LayerName
layer_name_of p = record { name = p.0; layers = p.1.0; datatypes = p.1.1 }

-- the name, the layers, and the datatypes
abbrev pub layer_name : Kind LayerName
layer_name = image_any layer_name_of (pair padding (λ _. pair interval (λ _. interval)))

abbrev pub SpellsLayerName : LayerName → List ℕ → Type 0
SpellsLayerName = layer_name.any

-- where a read may fail
abbrev pub LayerNameTook : Why → List ℕ → Type 0
LayerNameTook = layer_name.took
