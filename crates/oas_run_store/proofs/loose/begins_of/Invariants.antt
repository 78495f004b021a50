use Rattle.std.proofs.Common.{◌≤◌, ◌-◌, ◌++◌, length, drop}
use Rattle.std.specs.List.{All}
use Rattle.oas_runs.specs.Entries.{entries, IsBlock}
use Rattle.oas_runs.specs.Runs.{SameTotals}
use Rattle.oas_run_store.specs.Loose.{entries_of, Begins}
use Rattle.oas_run_store.proofs.loose.begins_of.Given as goal

-- what was put, and what is left
abbrev pub invariant-loop-entry : goal.invariant-loop-entry
invariant-loop-entry l = record {
  within : l.at ≤ length l.bytes;
  left : IsBlock (drop l.at l.bytes);
  begin : All (Begins l.bytes) l.all.items;
  same : SameTotals (entries_of l.bytes l.all.items ++ entries (drop l.at l.bytes)) (entries l.bytes);
}

abbrev pub decreases-loop-entry : goal.decreases-loop-entry
decreases-loop-entry l = length l.bytes - l.at
