use Rattle.std.specs.List.Sorted.{IsPermutation}
use Rattle.oas_layout.proofs.sorting.arrange.Given as goal

abbrev pub invariant-loop-place : goal.invariant-loop-place
invariant-loop-place l = IsPermutation l.fn.runs l.runs
