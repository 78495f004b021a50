-- The vertices of a point list (SEMI P39, Point lists).
use Rattle.std.specs.Prelude.{ℕ, Bool, if◌then◌else◌, List, [], ◌∷◌, ◌++◌, map}
use Rattle.std.specs.List.{AllByRecursion}
use Rattle.oas_num.specs.declared.refusals.Why.{Why}
use Rattle.oas_num.specs.declared.refusals.Why.TheVariants.{CoordinateRange, Memory}
use Rattle.oas_num.specs.declared.deltas.GDelta.{GDelta}
use Rattle.oas_ring.specs.declared.point.Point.{Point}
use Rattle.oas_shape.specs.declared.point_list.Closing.{Closing}
use Rattle.oas_shape.specs.declared.point_list.Closing.TheVariants.{Listed, FirstX, FirstY}
use Rattle.oas_shape.specs.Steps.{added, sums, sums_after, still, moved, IsInRange}

-- a point list: its deltas; whether each of them changes the displacement before it; which vertex it leaves out
pub record Polyline : Type 0 where
  pub deltas : List GDelta
  pub running : Bool
  pub closing : Closing

-- displacement i is delta i, or in a running list the sum of the first i deltas
abbrev pub displacements : Bool → List GDelta → List GDelta
displacements running deltas = if running then sums_after still deltas else deltas

-- the same, one after another: the next displacement is the next delta, and in a running list the one before is added
abbrev pub next_step : Bool → GDelta → GDelta → GDelta
next_step running before d = if running then added before d else d

-- point i is the position moved by the sum of the first i displacements
abbrev pub listed_vertices : Bool → List GDelta → Point → List Point
listed_vertices running deltas at = map (moved at) (sums (displacements running deltas))

-- the last one, or the given point where there is none
abbrev pub last_after : Point → List Point → Point
last_after p [] = p
last_after p (q ∷ qs) = last_after q qs

-- the vertex that is left out: it has one coordinate of the first vertex and the other of the last
abbrev pub left_out : Closing → Point → Point → List Point
left_out Listed first last = []
left_out FirstX first last = (record { x = first.x; y = last.y }) ∷ []
left_out FirstY first last = (record { x = last.x; y = first.y }) ∷ []

-- how many there are
abbrev pub left_out_count : Closing → ℕ
left_out_count Listed = 0
left_out_count FirstX = 1
left_out_count FirstY = 1

-- all vertices of a point list at a position
abbrev pub vertices_of : Polyline → Point → List Point
vertices_of line at =
    let listed = listed_vertices line.running line.deltas at in
    listed ++ left_out line.closing at (last_after at listed)

-- why the vertices may be refused: one of them exceeds the limits, or out of memory
abbrev pub VerticesMay : Why → List Point → Type 0
VerticesMay CoordinateRange points = ¬ AllByRecursion IsInRange points
VerticesMay Memory points = Unit {0}
VerticesMay _ points = ⊥
