use Rattle.std.proofs.Common.{drop}
use Rattle.oas_reader.proofs.WeightLemmas.{Adding}
use Rattle.oas_cells.specs.Short.{drawn_once}
use Rattle.oas_cells.specs.Weighing.{waiting_weight}
use Rattle.oas_cells.proofs.weighing.shorts_weight.Given as goal

abbrev pub invariant-loop-short : goal.invariant-loop-short
invariant-loop-short l =
    Adding l.weight (waiting_weight l.names.named l.strings.named (drawn_once (drop l.short-index l.shorts))) (waiting_weight l.names.named l.strings.named (drawn_once l.shorts))
