-- The lengths in bytes of numbers, strings, places and point lists.
use Rattle.std.proofs.Common.{ℕ, zero, suc, ◌+◌, ◌-◌, ◌*◌, ◌/◌, ◌≤◌, List, ◌∷◌, ◌++◌, length, length-append, inl, inr, arith, []}
use Rattle.std.specs.Prelude.{ℤ, ◌-ℤ◌}
use Rattle.std.proofs.lemmas.Bool.{cases_lt, lt-ltb, le-ltb}
use Rattle.oas_num.specs.Style.{code}
use Rattle.oas_num.specs.Writing.{groups, shortest, shortest_signed, shortest_gdelta}
use Rattle.oas_ring.specs.declared.point.Point.{Point}
use Rattle.oas_form.specs.Records.{first_of}
use Rattle.oas_form.specs.Bytes.{string_bytes, place_bytes, step_bytes, steps_bytes, list_bytes, points_bytes}

-- ---- numbers

groups_short : (k n : ℕ) → length (groups k n) ≤ k
groups_short zero n = omega arith
groups_short (suc k) n = elim (cases_lt n 128) [
  | inl small ↦ rw (lt-ltb n 128 small) (omega arith)
  | inr large ↦ rw (le-ltb n 128 large) (omega (arith, groups_short k (n / 128)))
]

-- at most ten groups
pub length-shortest : (n : ℕ) → length (shortest n) ≤ 10
unfolding shortest
length-shortest n = groups_short 10 n

pub length-signed : (z : ℤ) → length (shortest_signed z) ≤ 10
unfolding shortest_signed
length-signed z = length-shortest (code z)

pub length-gdelta : (dx dy : ℤ) → length (shortest_gdelta dx dy) ≤ 20
unfolding shortest_gdelta
length-gdelta dx dy = omega (arith, length-append (shortest (2 * code dx + 1)) (shortest (code dy)), length-shortest (2 * code dx + 1), length-shortest (code dy))

-- ---- the parts of records

pub length-string : (string : List ℕ) → length (string_bytes string) ≤ 10 + length string
length-string string = omega (arith, length-append (shortest (length string)) string, length-shortest (length string))

pub length-place : (x y : ℤ) → length (place_bytes x y) ≤ 20
length-place x y = omega (arith, length-append (shortest_signed x) (shortest_signed y), length-signed x, length-signed y)

pub length-step : (p : Point) (ps : List Point) → length (step_bytes p ps) ≤ 20 * length ps
length-step p [] = omega arith
length-step p (q ∷ qs) =
    let d = shortest_gdelta (q.x -ℤ p.x) (q.y -ℤ p.y) in
    omega (arith, length-append d (step_bytes q qs), length-gdelta (q.x -ℤ p.x) (q.y -ℤ p.y), length-step q qs)

pub length-steps : (ps : List Point) → length (steps_bytes ps) ≤ 20 * length ps
length-steps [] = omega arith
length-steps (p ∷ ps) = omega (arith, length-step p ps)

pub length-points : (ps : List Point) → length (points_bytes ps) ≤ 31 + 20 * length ps
length-points ps =
    let size = shortest (length ps - 1) in
    let x = (first_of ps).x in
    let y = (first_of ps).y in
    omega (arith, length-append (list_bytes ps) (place_bytes x y), length-append size (steps_bytes ps), length-shortest (length ps - 1), length-steps ps, length-place x y)

pub length-numbers : (n m : ℕ) (rest : List ℕ) → length (shortest n ++ (shortest m ++ rest)) ≤ 20 + length rest
length-numbers n m rest = omega (arith, length-append (shortest n) (shortest m ++ rest), length-append (shortest m) rest, length-shortest n, length-shortest m)
