use Rattle.std.specs.Prelude.{◌≡◌, [], take}
use Rattle.std.specs.List.{All}
use Rattle.oas_run_store.proofs.joining.are_over.Given as goal

-- nothing is left of those that were looked at
abbrev pub invariant-loop-run : goal.invariant-loop-run
invariant-loop-run l = All (λ run. run ≡ []) (take l.run-index l.runs)
