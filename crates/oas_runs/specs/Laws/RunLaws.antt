-- What lists of keys and counts weigh together, and keys above others.
use Rattle.std.specs.Prelude.{◌≡◌, ℕ, ◌+◌, List, [], ◌∷◌, ◌++◌}
use Rattle.std.proofs.Common.{arith}
use Rattle.std.specs.Cmp.{IsTotalOrder}
use Rattle.std.specs.declared.cmp.Ordering.{Ordering}
use Rattle.std.specs.declared.cmp.Ordering.TheVariants.{Less}
use Rattle.std.specs.List.{AllByRecursion}
use Rattle.std.specs.Map.{keys_of}
use Rattle.oas_runs.specs.Runs.{total}

module _ {K : Type 0} where
  -- the sum over two lists
  pub total-append : (g : K → ℕ) (ps qs : List (K × ℕ)) → total g (ps ++ qs) ≡ total g ps + total g qs
  total-append g [] qs = omega arith
  total-append g (p ∷ ps) qs = omega (arith, total-append g ps qs)

  -- all keys are above x
  abbrev pub AllAbove : (K → K → Ordering) → K → List (K × ℕ) → Type 0
  AllAbove R x es = AllByRecursion (λ y. R x y ≡ Less) (keys_of es)

  -- and above what is lower
  pub above_lower : {R : K → K → Ordering} → IsTotalOrder R → (x y : K) (es : List (K × ℕ)) → R x y ≡ Less → AllAbove R y es → AllAbove R x es
  above_lower o x y [] h a = tt
  above_lower o x y (p ∷ ps) h a = (o.trans x y p.0 h a.0, above_lower o x y ps h a.1)
