use Rattle.std.proofs.Common.{refl}
use Rattle.oas_cells.specs.Short.{drawn_once}
use Rattle.oas_cells.proofs.WeighLemmas.{waiting_begins}
use Rattle.oas_cells.proofs.weighing.shorts_weight.Goals as goal

pub loop-short-init : goal.loop-short-init
loop-short-init c = waiting_begins c.args.names.now.named c.args.strings.now.named (drawn_once c.args.shorts.now) (drawn_once c.args.shorts.now) refl
