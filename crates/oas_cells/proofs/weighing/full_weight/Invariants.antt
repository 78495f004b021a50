use Rattle.std.proofs.Common.{drop}
use Rattle.oas_reader.proofs.WeightLemmas.{Adding}
use Rattle.oas_cells.specs.Weighing.{full_weight}
use Rattle.oas_cells.proofs.weighing.full_weight.Given as goal

abbrev pub invariant-loop-chunk : goal.invariant-loop-chunk
invariant-loop-chunk l = Adding l.weight (full_weight l.names.named l.strings.named (drop l.chunk-index l.chunks)) (full_weight l.names.named l.strings.named l.chunks)
