-- What waits, spread over parts and sorted.
use Rattle.std.specs.Prelude.{◌≡◌, ℕ, ◌+◌, List}
use Rattle.std.specs.List.{AllByRecursion}
use Rattle.oas_elements.specs.Laws.BagLaws.{total}
use Rattle.oas_runs.specs.Blocks.{joined}
use Rattle.oas_reader.specs.Drawn.{Drawn}

-- the parts have this much more: whatever each counts for, the sum is that of both
abbrev pub Gain : List (List (Drawn × ℕ)) → List (Drawn × ℕ) → List (List (Drawn × ℕ)) → Type 0
Gain old more new = (g : Drawn → ℕ) → total g (joined new) ≡ total g (joined old) + total g more

-- each waits once
abbrev pub AllOnce : List (Drawn × ℕ) → Type 0
AllOnce ps = AllByRecursion (λ p. p.1 ≡ 1) ps
