-- Putting the steps between the points of an element.
use Rattle.std.proofs.Common.{◌≡◌, ℕ, ◌+◌, ◌*◌, ◌≤◌, ◌^◌, true, List, ◌∷◌, ◌++◌, length, None, Some, sym, ap, ◌∙◌, subst, arith, w64, to_z, of_z}
use Rattle.std.specs.Prelude.{ℤ, nat_abs}
use Rattle.std.specs.List.{list_all}
use Rattle.std.proofs.lemmas.Bool.{and_parts}
use Rattle.std.proofs.lemmas.Int.{to_z-of_z, fits_signed_from_abs}
use Rattle.oas_num.specs.Writing.{PutsPrefix, shortest_gdelta}
use Rattle.oas_ring.specs.declared.point.Point.{Point}
use Rattle.oas_elements.specs.Grid.{is_grid_point}
use Rattle.oas_listing.specs.Bytes.{step_bytes}
use Rattle.oas_listing.specs.Putting.{PutsAll}
use Rattle.oas_listing.specs.SpelledSteps.{SpelledSteps}
use Rattle.oas_listing.specs.Steps.{HasSteps, YieldsStep}
use Rattle.oas_listing.proofs.PointPutting.{across_short, up_short}
use Rattle.oas_listing.proofs.PuttingLemmas.{PutSoFar, begins, fails_at, all_put, ◌▸◌}

-- the steps up to a point were put, and those to these are left
pub record StepsLeft {K : Type 0} (given : K → List ℕ → K → Type 0) (failures : K → ℕ) (first : Point) (all : List Point) (steps : SpelledSteps) (old now : K) (count : ℕ) : Type 0 where
  pub before : Point
  pub left : List Point
  pub has : HasSteps steps before left
  pub so_far : PutSoFar given failures (step_bytes first all) (step_bytes before left) old now count
  pub short : count + 20 * length left ≤ 20 * length all

pub steps_begin : {K : Type 0} (given : K → List ℕ → K → Type 0) (failures : K → ℕ) (first : Point) (all : List Point) (steps : SpelledSteps) (s : K) → HasSteps steps first all
    → StepsLeft given failures first all steps s s 0
steps_begin given failures first all steps s h = record { before = first; left = all; has = h; so_far = begins s (step_bytes first all); short = omega arith }

module _ {K : Type 0} {given : K → List ℕ → K → Type 0} {failures : K → ℕ} {first : Point} {all : List Point} {steps next : SpelledSteps} {old mid : K} {n : ℕ}
    (h : StepsLeft given failures first all steps old mid n) (dx dy : ℤ) (step : YieldsStep (Some (dx, dy)) h.before h.left next) where
  dx_short : nat_abs dx ≤ 2 ^ 61
  dx_short = subst (λ (z : ℤ). nat_abs z ≤ 2 ^ 61) (sym step.3) (across_short h.before step.0 h.has.from step.5.from)

  dy_short : nat_abs dy ≤ 2 ^ 61
  dy_short = subst (λ (z : ℤ). nat_abs z ≤ 2 ^ 61) (sym step.4) (up_short h.before step.0 h.has.from step.5.from)

  dx_is : to_z w64 (of_z w64 dx) ≡ dx
  dx_is = to_z-of_z w64 dx (fits_signed_from_abs w64 dx (omega (arith, dx_short)))

  dy_is : to_z w64 (of_z w64 dy) ≡ dy
  dy_is = to_z-of_z w64 dy (fits_signed_from_abs w64 dy (omega (arith, dy_short)))

  -- the step is short enough to be put
  pub across_passes : nat_abs (to_z w64 (of_z w64 dx)) ≤ 2 ^ 61
  across_passes = subst (λ (z : ℤ). nat_abs z ≤ 2 ^ 61) (sym dx_is) dx_short

  pub up_passes : nat_abs (to_z w64 (of_z w64 dy)) ≤ 2 ^ 61
  up_passes = subst (λ (z : ℤ). nat_abs z ≤ 2 ^ 61) (sym dy_is) dy_short

  abbrev step_is : List ℕ
  step_is = shortest_gdelta (to_z w64 (of_z w64 dx)) (to_z w64 (of_z w64 dy))

  split : PutSoFar given failures (step_bytes first all) (step_is ++ step_bytes step.0 step.1) old mid n
  split =
      subst (λ (b : List ℕ). PutSoFar given failures (step_bytes first all) b old mid n)
      (ap (step_bytes h.before) step.2 ∙ (λ i. shortest_gdelta (sym (dx_is ∙ step.3) i) (sym (dy_is ∙ step.4) i) ++ step_bytes step.0 step.1)) h.so_far

  pub step_fails : {new : K} → PutsPrefix given failures mid step_is new → PutsPrefix given failures old (step_bytes first all) new
  step_fails q = fails_at _ split q

  longer : length h.left ≡ 1 + length step.1
  longer = ap length step.2 ∙ omega arith

  pub count_fits : {m : ℕ} → m ≤ 20 → n + m ≤ 20 * length all
  count_fits short = omega (arith, h.short, longer, short)

  pub step_put : {new : K} {m : ℕ} → PutsAll given failures mid step_is m new → m ≤ 20 → StepsLeft given failures first all next old new (n + m)
  step_put q short = record { before = step.0; left = step.1; has = step.5; so_far = split ▸ q; short = omega (arith, h.short, longer, short) }

pub steps_end : {K : Type 0} {given : K → List ℕ → K → Type 0} {failures : K → ℕ} {first : Point} {all : List Point} {steps : SpelledSteps} (next : SpelledSteps) {old new : K} {n : ℕ}
    (h : StepsLeft given failures first all steps old new n) → YieldsStep None h.before h.left next → PutsAll given failures old (step_bytes first all) n new
steps_end {given = given} {failures = failures} {first = first} {all = all} next {old = old} {new = new} {n = n} h none =
    all_put (subst (λ (rs : List Point). PutSoFar given failures (step_bytes first all) (step_bytes h.before rs) old new n) none h.so_far)

-- ---- the first point

-- the first is inside, and there is one less behind it
pub record Firsts (ps qs : List Point) (p : Point) : Type 0 where
  pub first : is_grid_point p ≡ true
  pub fewer : length ps ≡ 1 + length qs

pub firsts : (ps qs : List Point) (p : Point) → ps ≡ p ∷ qs → list_all is_grid_point ps ≡ true → Firsts ps qs p
firsts ps qs p is inside =
    let both = and_parts (is_grid_point p) (list_all is_grid_point qs) (subst (λ (rs : List Point). list_all is_grid_point rs ≡ true) is inside) in
    record { first = both.0; fewer = omega (arith, ap length is) }
