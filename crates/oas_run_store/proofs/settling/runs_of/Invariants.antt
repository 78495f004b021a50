use Rattle.std.proofs.Common.{◌++◌, drop}
use Rattle.std.specs.Cmp.Lexicographic.{slice_cmp}
use Rattle.std.specs.Ordering.{nat_cmp}
use Rattle.oas_runs.specs.Runs.{IsRun, SameTotals}
use Rattle.oas_runs.specs.Blocks.{joined}
use Rattle.oas_run_store.specs.Parts.{AreRuns}
use Rattle.oas_run_store.specs.Loose.{entries_of}
use Rattle.oas_run_store.proofs.settling.runs_of.Given as goal

-- what was put, and what is left
abbrev pub invariant-loop-place : goal.invariant-loop-place
invariant-loop-place l = record {
  run : IsRun (slice_cmp nat_cmp) l.summing;
  are : AreRuns (slice_cmp nat_cmp) l.runs.items;
  same : SameTotals ((l.summing ++ joined l.runs.items) ++ entries_of l.bytes (drop l.place-index l.sorted)) (entries_of l.bytes l.sorted);
}
