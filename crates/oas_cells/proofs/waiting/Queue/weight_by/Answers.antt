use Rattle.std.proofs.Common.{◌∙◌, ap}
use Rattle.oas_cells.specs.Weighing.{waiting_weight}
use Rattle.oas_cells.proofs.WeighLemmas.{two_weights}
use Rattle.oas_cells.proofs.waiting.Queue.weight_by.Goals as goal

pub returns : goal.returns
returns c =
    c.both_weights.ensures ∙ (two_weights c.args.names.now.named c.args.strings.now.named c.self.inside.chunks c.self.inside.others.entries
    ∙ ap (waiting_weight c.args.names.now.named c.args.strings.now.named) c.self.view_is)
