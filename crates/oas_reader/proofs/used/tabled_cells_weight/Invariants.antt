use Rattle.std.proofs.Common.{List, ℕ, drop}
use Rattle.oas_reader.specs.Used.{with_table}
use Rattle.oas_reader.specs.Weights.{names_weight}
use Rattle.oas_reader.proofs.WeightLemmas.{Adding}
use Rattle.oas_reader.proofs.used.tabled_cells_weight.Given as goal

abbrev pub invariant-loop-number : goal.invariant-loop-number
invariant-loop-number l =
    (others : List (ℕ × ℕ)) → Adding l.weight (names_weight l.names.named (with_table l.number (drop l.number l.table) others)) (names_weight l.names.named (with_table 0 l.table others))
