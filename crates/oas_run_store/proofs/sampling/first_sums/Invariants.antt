use Rattle.std.proofs.Common.{length}
use Rattle.oas_runs.specs.Entries.{IsBlock}
use Rattle.oas_run_store.proofs.sampling.first_sums.Given as goal

-- what is left is entries
abbrev pub invariant-loop-entry : goal.invariant-loop-entry
invariant-loop-entry l = IsBlock l.left

abbrev pub decreases-loop-entry : goal.decreases-loop-entry
decreases-loop-entry l = length l.left
