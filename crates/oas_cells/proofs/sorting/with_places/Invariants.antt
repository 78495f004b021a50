use Rattle.std.proofs.Common.{◌≡◌, ◌++◌, map, drop}
use Rattle.oas_cells.specs.declared.sorting.Placed.{Placed}
use Rattle.oas_cells.proofs.sorting.with_places.Given as goal

-- what has its place, and what is left
abbrev pub invariant-loop-short : goal.invariant-loop-short
invariant-loop-short l = map (λ (p : Placed). p.short) l.all.items ++ drop l.short-index l.shorts ≡ l.shorts
