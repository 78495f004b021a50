use Rattle.oas_reader.specs.Weights.{names_weight}
use Rattle.oas_reader.proofs.WeightLemmas.{Adding}
use Rattle.oas_reader.proofs.used.Counts.cells_weight.Given as goal

abbrev pub invariant-loop-number : goal.invariant-loop-number
invariant-loop-number l = Adding l.weight (names_weight l.names.named l.number-iterator) (names_weight l.names.named l.self)
