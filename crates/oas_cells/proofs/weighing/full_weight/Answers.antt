use Rattle.std.proofs.Common.{refl}
use Rattle.oas_cells.proofs.WeighLemmas.{full_begins}
use Rattle.oas_cells.proofs.weighing.full_weight.Goals as goal

pub loop-chunk-init : goal.loop-chunk-init
loop-chunk-init c = full_begins c.args.names.now.named c.args.strings.now.named c.args.chunks.now c.args.chunks.now refl
