use Rattle.std.proofs.Common.{◌≡◌, ◌++◌, map, drop}
use Rattle.oas_cells.specs.declared.sorting.Placed.{Placed}
use Rattle.oas_cells.proofs.sorting.without_places.Given as goal

abbrev pub invariant-loop-placed : goal.invariant-loop-placed
invariant-loop-placed l = l.shorts.items ++ map (λ (p : Placed). p.short) (drop l.placed-index l.all) ≡ map (λ (p : Placed). p.short) l.all
