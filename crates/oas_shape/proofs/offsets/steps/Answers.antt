use Rattle.std.proofs.Common.{◌≡◌, ℕ, ◌*◌, ◌^◌, ◌<◌, ◌≤◌, ℤ, pos, w64, to_z, of_z, sym, ap, subst, ◌∙◌, arith}
use Rattle.std.specs.Prelude.{◌*ℤ◌}
use Rattle.std.specs.Int.{w128}
use Rattle.std.specs.Int.RustNames.{FitsSigned, unsigned_abs}
use Rattle.std.proofs.lemmas.Int.{ints, to_z-of_z, unsigned_abs-mul, fits_signed_from_abs}
use Rattle.std.proofs.lemmas.Nat.{mul-le}
use Rattle.oas_shape.specs.Steps.{IsBounded}
use Rattle.oas_shape.proofs.offsets.steps.Goals as goal

-- the sum of this many steps is not too far
near : (n : ℕ) (by : ℤ) → n < 2 ^ 32 → FitsSigned w64 by → unsigned_abs (pos n *ℤ by) ≤ 2 ^ 95
near n by small fits =
    let most : unsigned_abs by ≤ 2 ^ 63 = omega (arith, ints) in
    let product : n * unsigned_abs by ≤ 2 ^ 32 * 2 ^ 63 = mul-le n (unsigned_abs by) (2 ^ 32) (2 ^ 63) (omega arith) most in
    omega (arith, unsigned_abs-mul (pos n) by, product)

-- and is within its bounds
bounded : (z : ℤ) → unsigned_abs z ≤ 2 ^ 95 → IsBounded (2 ^ 97) z
bounded z h = (omega (arith, ints), omega (arith, ints))

module _ (n : ℕ) (by a b : ℤ) (small : n < 2 ^ 32) (fits : FitsSigned w64 by) (a_is : a ≡ pos n) (b_is : b ≡ to_z w64 (of_z w64 by)) where
  -- the two numbers unchanged
  one : to_z w128 (of_z w128 a) ≡ pos n
  one = ap (λ (z : ℤ). to_z w128 (of_z w128 z)) a_is ∙ to_z-of_z w128 (pos n) (fits_signed_from_abs w128 (pos n) (omega (arith, ints)))

  other : to_z w128 (of_z w128 b) ≡ by
  other =
      let e : b ≡ by = b_is ∙ to_z-of_z w64 by fits in
      ap (λ (z : ℤ). to_z w128 (of_z w128 z)) e ∙ to_z-of_z w128 by (fits_signed_from_abs w128 by (omega (arith, ints)))

  -- their product unchanged
  product : to_z w128 (of_z w128 a) *ℤ to_z w128 (of_z w128 b) ≡ pos n *ℤ by
  product = λ i. one i *ℤ other i

  -- which fits
  product_fits : FitsSigned w128 (pos n *ℤ by)
  product_fits = let small : unsigned_abs (pos n *ℤ by) ≤ 2 ^ 95 = near n by small fits in fits_signed_from_abs w128 (pos n *ℤ by) (omega (arith, small))

  -- also as the code has it
  fits_as_written : FitsSigned w128 (to_z w128 (of_z w128 a) *ℤ to_z w128 (of_z w128 b))
  fits_as_written = subst (FitsSigned w128) (sym product) product_fits

  -- so the sum is exact
  value : to_z w128 (of_z w128 (to_z w128 (of_z w128 a) *ℤ to_z w128 (of_z w128 b))) ≡ pos n *ℤ by
  value = ap (λ (z : ℤ). to_z w128 (of_z w128 z)) product ∙ to_z-of_z w128 (pos n *ℤ by) product_fits

  -- and is not too far
  near_as_written : IsBounded (2 ^ 97) (to_z w128 (of_z w128 (to_z w128 (of_z w128 a) *ℤ to_z w128 (of_z w128 b))))
  near_as_written = subst (IsBounded (2 ^ 97)) (sym value) (bounded (pos n *ℤ by) (near n by small fits))

pub overflow_mul-result : goal.overflow_mul-result
overflow_mul-result c = fits_as_written c.args.n c.args.by c.from.result c.from-2.result c.requires c.ranges.by c.from.ensures c.from-2.ensures

pub returns-clause-value : goal.returns-clause-value
returns-clause-value c = value c.args.n c.args.by c.from.result c.from-2.result c.requires c.ranges.by c.from.ensures c.from-2.ensures

pub returns-clause-near : goal.returns-clause-near
returns-clause-near c = near_as_written c.args.n c.args.by c.from.result c.from-2.result c.requires c.ranges.by c.from.ensures c.from-2.ensures
