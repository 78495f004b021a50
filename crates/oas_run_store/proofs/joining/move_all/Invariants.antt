use Rattle.std.specs.Prelude.{◌≡◌, ◌++◌, length}
use Rattle.std.specs.Vec.{vec_len, vec_capacity}
use Rattle.std.specs.Cmp.Lexicographic.{slice_cmp}
use Rattle.std.specs.Ordering.{nat_cmp}
use Rattle.oas_runs.specs.Runs.{IsRun, SameTotals}
use Rattle.oas_runs.specs.Blocks.{joined}
use Rattle.oas_run_store.specs.Parts.{AreRuns}
use Rattle.oas_run_store.proofs.joining.move_all.Given as goal

-- nothing is lost
abbrev pub invariant-loop : goal.invariant-loop
invariant-loop l = record {
  are : AreRuns (slice_cmp nat_cmp) l.runs.items;
  to : IsRun (slice_cmp nat_cmp) l.to;
  same : SameTotals (l.to ++ joined l.runs.items) (l.fn.to ++ joined l.fn.runs.items);
  len : vec_len l.runs ≡ vec_len l.fn.runs;
  capacity : vec_capacity l.runs ≡ vec_capacity l.fn.runs;
}

abbrev pub decreases-loop : goal.decreases-loop
decreases-loop l = length (joined l.runs.items)
