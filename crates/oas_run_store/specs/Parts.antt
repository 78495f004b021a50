-- What the parts of a store hold.
use Rattle.std.specs.Prelude.{◌≡◌, ℕ, ◌<◌, ◌^◌, List, [], ◌∷◌, ◌++◌}
use Rattle.std.specs.List.{AllByRecursion}
use Rattle.std.specs.declared.cmp.Ordering.{Ordering}
use Rattle.std.specs.declared.cmp.Ordering.TheVariants.{Less, Equal}
use Rattle.oas_runs.specs.Blocks.{joined}
use Rattle.oas_runs.specs.Runs.{copies, Positive, IsRun}

module _ {K : Type 0} where
  -- everything that is held, in no order
  abbrev pub contents : List (K × ℕ) → List (K × ℕ) → List (List (K × ℕ)) → List (K × ℕ)
  contents rising loose rs = rising ++ loose ++ joined rs

  -- each is a run
  abbrev pub AreRuns : (K → K → Ordering) → List (List (K × ℕ)) → Type 0
  AreRuns R rs = AllByRecursion (λ r. IsRun R r) rs

  -- no key is there too often to be counted
  abbrev pub CountsFit : (K → K → Ordering) → List (K × ℕ) → Type 0
  CountsFit R es = (k : K) → copies R k es < 2 ^ 64

  -- the parts are runs, except what waits in any order, and all counts fit, also when they are summed
  pub record AreParts (R : K → K → Ordering) (rising loose : List (K × ℕ)) (rs : List (List (K × ℕ))) : Type 0 where
    pub ascends : IsRun R rising
    pub waits : Positive loose
    pub runs : AreRuns R rs
    pub fits : CountsFit R (contents rising loose rs)

  -- the last key is below k
  abbrev pub IsBelow : (K → K → Ordering) → List (K × ℕ) → K → Type 0
  IsBelow R es k = (ps : List (K × ℕ)) (p : K × ℕ) → es ≡ ps ++ p ∷ [] → R p.0 k ≡ Less

  -- the last key ties with k
  abbrev pub EndsWith : (K → K → Ordering) → List (K × ℕ) → K → Type 0
  EndsWith R es k = (ps : List (K × ℕ)) × (p : K × ℕ) × (es ≡ ps ++ p ∷ []) × (R p.0 k ≡ Equal)
