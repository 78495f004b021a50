-- where vertices are
use Rattle.std.proofs.Common.{◌≡◌, List, [], ◌∷◌, refl, ap, ◌∙◌, arith, Bool, true, false, ◌⊎◌, inl, inr}
use Rattle.std.proofs.lemmas.Int.{ints}
use Rattle.std.specs.Prelude.{IsTrue, ◌↔◌, ℤ, pos, ◌+ℤ◌, ◌^◌, ◌&&◌, not, Option, None, Some}
use Rattle.std.specs.List.{list_all, AllByRecursion}
use Rattle.oas_num.specs.declared.refusals.Why.{Why}
use Rattle.oas_num.specs.declared.refusals.Why.TheVariants.{CoordinateRange, Memory}
use Rattle.oas_ring.specs.declared.point.Point.{Point}
use Rattle.oas_shape.specs.Steps.{IsBounded, IsInRange, moved, still}
use Rattle.oas_shape.specs.Polylines.{Polyline, vertices_of, VerticesMay}
use Rattle.oas_elements.specs.Grid.{is_coordinate, is_grid_point}
use Rattle.oas_drawing.specs.declared.positions.Position.{Position}
use Rattle.oas_drawing.specs.Positions as positions
use Rattle.oas_drawing.specs.declared.drawn.Drawn.{Drawn}
use Rattle.oas_drawing.specs.Drawn.{drawn_fits}
use Rattle.oas_drawing.specs.Reasons.{first_of, fault_of, is_on_grid}

near : (x : ℤ) → is_coordinate x ≡ true → IsBounded (2 ^ 60) x
near x h = grind (arith, ints)

both : (a b : Bool) → (a && b) ≡ true → (a ≡ true) × (b ≡ true)
both true b h = (refl, h)
both false b h = cc

pub in_range : (p : Point) → is_grid_point p ≡ true → IsInRange p
in_range p h = let b = both (is_coordinate p.x) (is_coordinate p.y) h in record { x = near p.x b.0; y = near p.y b.1 }

all_in_range : (ps : List Point) → list_all is_grid_point ps ≡ true → AllByRecursion IsInRange ps
all_in_range [] h = tt
all_in_range (p ∷ ps) h = let b = both (is_grid_point p) (list_all is_grid_point ps) h in (in_range p b.0, all_in_range ps b.1)

not_true : (b : Bool) → ¬ (b ≡ true) → b ≡ false
not_true true n = absurd (n refl)
not_true false n = refl

-- vertices one of which exceeds the limits
far_vertices : (ps : List Point) → ¬ AllByRecursion IsInRange ps → list_all is_grid_point ps ≡ false
far_vertices ps n = not_true (list_all is_grid_point ps) (λ h. n (all_in_range ps h))

plus_zero : (x : ℤ) → x +ℤ pos 0 ≡ x
plus_zero x = omega (arith, ints)

not_moved : (at : Point) → moved at still ≡ at
not_moved at = ap (λ (x : ℤ). record { x = x; y = at.y +ℤ pos 0 }) (plus_zero at.x) ∙ ap (λ (y : ℤ). record { x = at.x; y = y }) (plus_zero at.y)

first_off : (p q : Point) (b : Bool) → p ≡ q → is_grid_point q ≡ false → (is_grid_point p && b) ≡ false
first_off p q b e h = ap (λ (r : Point). is_grid_point r && b) e ∙ ap (λ (c : Bool). c && b) h

on_coordinate : (x : ℤ) → IsBounded (2 ^ 60) x → is_coordinate x ≡ true
on_coordinate x h = let low = h.0 in let high = h.1 in grind (arith, ints)

on_point : (p : Point) → IsInRange p → is_grid_point p ≡ true
on_point p h = (λ i. on_coordinate p.x h.x i && on_coordinate p.y h.y i)

pub all_on_grid : (ps : List Point) → AllByRecursion IsInRange ps → list_all is_grid_point ps ≡ true
all_on_grid [] all = refl
all_on_grid (p ∷ ps) all = (λ i. on_point p all.0 i && all_on_grid ps all.1 i)

-- whether vertices are within the limits is whether they are within the grid
pub answered : (answer : Bool) (ps : List Point) → IsTrue answer ↔ AllByRecursion IsInRange ps → list_all is_grid_point ps ≡ answer
answered true ps a = all_on_grid ps (a.0 refl)
answered false ps a = far_vertices ps (λ all. false_is_no (a.1 all)) where
  false_is_no : false ≡ true → ⊥
  false_is_no e = cc

-- those of a position outside the grid, which is the first of them
pub off_vertices : (line : Polyline) (at : Point) → is_grid_point at ≡ false → list_all is_grid_point (vertices_of line at) ≡ false
off_vertices line at h = first_off (moved at still) at _ (not_moved at) h

-- why vertices are refused
pub vertices_fault : (why : Why) (ps : List Point) → VerticesMay why ps → (why ≡ Memory) ⊎ ((why ≡ CoordinateRange) × (list_all is_grid_point ps ≡ false))
vertices_fault CoordinateRange ps v = inr (refl, far_vertices ps v)
vertices_fault Memory ps v = inl refl
vertices_fault _ ps v = absurd v

-- a position on the grid is within the limits
pub on_grid : (at : Position) → is_on_grid at ≡ true → positions.IsNear at
on_grid at h =
    let b = both (is_coordinate at.x) (is_coordinate at.y) h in
    let x = near at.x b.0 in
    let y = near at.y b.1 in
    record { x = record { low = x.0; high = x.1 }; y = record { low = y.0; high = y.1 } }

-- an element at fault is never out of memory
pub never_memory : (o : Option Drawn) → fault_of o ≡ Some Memory → ⊥
never_memory None h = cc
never_memory (Some d) h = by (drawn_fits d) h where
  by : (b : Bool) → first_of ((not b, CoordinateRange) ∷ []) ≡ Some Memory → ⊥
  by true h = cc
  by false h = cc
