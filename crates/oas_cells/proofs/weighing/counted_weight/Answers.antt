use Rattle.oas_cells.proofs.WeighLemmas.{waiting_begins}
use Rattle.oas_cells.proofs.weighing.counted_weight.Goals as goal

pub loop-drawn-init : goal.loop-drawn-init
loop-drawn-init c =
    waiting_begins c.args.names.now.named c.args.strings.now.named c.into_iter-drawn-iterator.result c.args.waiting.now.entries c.into_iter-drawn-iterator.ensures.into_iter_gives.0
