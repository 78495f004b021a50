use Rattle.oas_reader.proofs.WeightLemmas.{Adding}
use Rattle.oas_cells.specs.Weighing.{waiting_weight}
use Rattle.oas_cells.proofs.weighing.counted_weight.Given as goal

abbrev pub invariant-loop-drawn : goal.invariant-loop-drawn
invariant-loop-drawn l = Adding l.weight (waiting_weight l.names.named l.strings.named l.drawn-iterator) (waiting_weight l.names.named l.strings.named l.waiting.entries)
