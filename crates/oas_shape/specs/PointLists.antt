-- How point lists are spelled (SEMI P39, Point lists).
use Rattle.std.specs.Prelude.{◌≡◌, ℕ, pos, ◌<◌, ◌==◌, if◌then◌else◌, Bool, true, false, not, List, [], ◌∷◌, length}
use Rattle.oas_num.specs.declared.refusals.Why.{Why}
use Rattle.oas_num.specs.declared.refusals.Why.TheVariants.{ListKind, PointCount}
use Rattle.oas_num.specs.declared.deltas.Delta1.{Delta1}
use Rattle.oas_num.specs.declared.deltas.Delta2.{Delta2}
use Rattle.oas_num.specs.declared.deltas.Delta3.{Delta3}
use Rattle.oas_num.specs.declared.deltas.GDelta.{GDelta}
use Rattle.oas_num.specs.Grammar.{IsPair, IsSuch, IsImage, IsCount}
use Rattle.oas_num.specs.Combinators.{IsEither}
use Rattle.oas_num.specs.Integers.{IsUnsigned}
use Rattle.oas_num.specs.Style.{Style, Any, Shortest, unsigned_in}
use Rattle.oas_num.specs.Deltas.{SpellsDelta1, SpellsDelta2, SpellsDelta3, SpellsGDelta, GDeltaTook, gdelta_in, step}
use Rattle.oas_num.specs.Pieces.{PairTook, SuchTook, Unless, ListTook}
use Rattle.oas_num.specs.Reading.{IntegerMay}
use Rattle.oas_shape.specs.declared.list_use.ListUse.{ListUse}
use Rattle.oas_shape.specs.declared.list_use.ListUse.TheVariants.{Polygon, Path}
use Rattle.oas_shape.specs.declared.point_list.Closing.{Closing}
use Rattle.oas_shape.specs.declared.point_list.Closing.TheVariants.{Listed, FirstX, FirstY}
use Rattle.oas_shape.specs.ListUses.{IsFitting}
use Rattle.oas_shape.specs.Polylines.{Polyline}

-- there are six types
abbrev pub IsListKind : ℕ → Type 0
IsListKind kind = kind < 6

-- 1-deltas go alternately along x and y
abbrev pub alternating : Bool → List Delta1 → List GDelta
alternating along_x [] = []
alternating along_x (d ∷ ds) = (if along_x then step d.0 (pos 0) else step (pos 0) d.0) ∷ alternating (not along_x) ds

-- the other deltas are steps
abbrev pub step2 : Delta2 → GDelta
step2 d = step d.dx d.dy

abbrev pub step3 : Delta3 → GDelta
step3 d = step d.dx d.dy

abbrev pub stepg : GDelta → GDelta
stepg d = d

-- this many deltas of a list of that type
abbrev pub deltas_in : ℕ → ℕ → List GDelta → List ℕ → Type 0
deltas_in kind count =
    IsEither (kind == 0) (IsImage (alternating true) (IsCount SpellsDelta1 count))
    (IsEither (kind == 1) (IsImage (alternating false) (IsCount SpellsDelta1 count))
    (IsEither (kind == 2) (IsCount (IsImage step2 SpellsDelta2) count)
    (IsEither (kind == 3) (IsCount (IsImage step3 SpellsDelta3) count)
    (IsCount (IsImage stepg SpellsGDelta) count))))

-- Polygons of types 0 and 1 leave out their last vertex. For type 0 it has the x of the first vertex, for type 1 its y.
abbrev pub closing_of : ListUse → ℕ → Closing
closing_of Polygon kind = if kind == 0 then FirstX else (if kind == 1 then FirstY else Listed)
closing_of Path kind = Listed

-- a list's type, its count and its deltas
abbrev pub Parts : Type 0
Parts = ℕ × (ℕ × List GDelta)

-- the list that they give: in type 5 each delta changes the displacement before it
abbrev pub polyline_of : ListUse → ℕ × (ℕ × List GDelta) → Polyline
polyline_of purpose parts = record { deltas = parts.1.1; running = parts.0 == 5; closing = closing_of purpose parts.0 }

-- what follows the type
abbrev pub after_kind : ListUse → ℕ → ℕ × List GDelta → List ℕ → Type 0
after_kind purpose kind = IsPair (IsSuch (IsFitting purpose kind) IsUnsigned) (deltas_in kind)

-- any spelling: a type, a count that fits, and this many deltas of the type
abbrev pub IsPointList : ListUse → Polyline → List ℕ → Type 0
IsPointList purpose = IsImage (polyline_of purpose) (IsPair (IsSuch IsListKind IsUnsigned) (after_kind purpose))

-- a list of type 4 with these deltas
abbrev pub plain_line : List GDelta → Polyline
plain_line deltas = record { deltas = deltas; running = false; closing = Listed }

-- the shortest spelling of a type, a count and g-deltas
abbrev pub IsShortestList : ℕ × (ℕ × List GDelta) → List ℕ → Type 0
IsShortestList = IsPair (unsigned_in Shortest) (λ _. IsPair (unsigned_in Shortest) (IsCount (gdelta_in Shortest)))

-- the canonical spelling: type 4, with all numbers the shortest
pub record IsPlainList (purpose : ListUse) (line : Polyline) (bytes : List ℕ) : Type 0 where
  pub plain : line ≡ plain_line line.deltas
  pub fits : IsFitting purpose 4 (length line.deltas)
  pub spelled : IsShortestList (4, (length line.deltas, line.deltas)) bytes

-- a point list, in a style
abbrev pub point_list_in : Style → ListUse → Polyline → List ℕ → Type 0
point_list_in Any purpose = IsPointList purpose
point_list_in Shortest purpose = IsPlainList purpose

-- ---- where a read may fail

-- This many deltas of a list of that type: in one of them, or one was read and there is no memory for it.
abbrev pub DeltasTook : ℕ → ℕ → Why → List ℕ → Type 0
DeltasTook kind count =
    IsEither (kind == 0) (ListTook SpellsDelta1 count IntegerMay)
    (IsEither (kind == 1) (ListTook SpellsDelta1 count IntegerMay)
    (IsEither (kind == 2) (ListTook (IsImage step2 SpellsDelta2) count IntegerMay)
    (IsEither (kind == 3) (ListTook (IsImage step3 SpellsDelta3) count IntegerMay)
    (ListTook (IsImage stepg SpellsGDelta) count GDeltaTook))))

-- in the count, or it doesn't fit the type that was read, or in the deltas
abbrev pub AfterKindTook : ListUse → ℕ → Why → List ℕ → Type 0
AfterKindTook purpose kind = PairTook (IsSuch (IsFitting purpose kind) IsUnsigned) (SuchTook IsUnsigned IntegerMay (Unless (IsFitting purpose kind) PointCount)) (DeltasTook kind)

-- in the type, or there is no such type, or in what follows it
abbrev pub PointListTook : ListUse → Why → List ℕ → Type 0
PointListTook purpose = PairTook (IsSuch IsListKind IsUnsigned) (SuchTook IsUnsigned IntegerMay (Unless IsListKind ListKind)) (AfterKindTook purpose)
