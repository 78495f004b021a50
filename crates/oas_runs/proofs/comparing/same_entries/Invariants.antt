use Rattle.std.proofs.Common.{◌≡◌}
use Rattle.std.specs.Cmp.Lexicographic.{pointwise}
use Rattle.oas_runs.specs.Comparing.{same_entry}
use Rattle.oas_runs.proofs.comparing.same_entries.Given as goal

abbrev pub invariant-loop-key : goal.invariant-loop-key
invariant-loop-key l = pointwise same_entry l.fn.one l.fn.other ≡ pointwise same_entry l.key-iterator l.others
