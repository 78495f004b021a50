-- Sums of steps.
use Rattle.std.proofs.Common.{◌≡◌, ℤ, pos, List, [], ◌∷◌, ◌++◌, arith}
use Rattle.std.specs.Prelude.{◌+ℤ◌}
use Rattle.std.specs.List.{AllByRecursion}
use Rattle.std.proofs.lemmas.Int.{ints}
use Rattle.oas_num.specs.declared.deltas.GDelta.{GDelta}
use Rattle.oas_ring.specs.declared.point.Point.{Point}
use Rattle.oas_shape.specs.Steps.{still, added, moved}

plus_assoc : (a b c : ℤ) → (a +ℤ b) +ℤ c ≡ a +ℤ (b +ℤ c)
plus_assoc a b c = omega (arith, ints)

plus_zero : (a : ℤ) → a +ℤ pos 0 ≡ a
plus_zero a = omega (arith, ints)

-- a point moved twice is moved by the sum
pub moved-added : (p : Point) (d e : GDelta) → moved (moved p d) e ≡ moved p (added d e)
moved-added p d e = (λ i. record { x = plus_assoc p.x d.dx e.dx i; y = plus_assoc p.y d.dy e.dy i })

-- a point that isn't moved stays
pub moved-still : (p : Point) → moved p still ≡ p
moved-still p = (λ i. record { x = plus_zero p.x i; y = plus_zero p.y i })

-- what holds for each of a list holds for one of its items
pub at_middle : {X : Type 0} (P : X → Type 0) (xs : List X) (y : X) (ys : List X) → AllByRecursion P (xs ++ y ∷ ys) → P y
at_middle P [] y ys h = h.0
at_middle P (x ∷ xs) y ys h = at_middle P xs y ys h.1

-- and for its prefix
pub at_front : {X : Type 0} (P : X → Type 0) (xs ys : List X) → AllByRecursion P (xs ++ ys) → AllByRecursion P xs
at_front P [] ys h = tt
at_front P (x ∷ xs) ys h = (h.0, at_front P xs ys h.1)

-- one more for which that holds
pub all_more : {X : Type 0} (P : X → Type 0) (xs : List X) (y : X) → AllByRecursion P xs → P y → AllByRecursion P (xs ++ y ∷ [])
all_more P [] y h p = (p, tt)
all_more P (x ∷ xs) y h p = (h.0, all_more P xs y h.1 p)
