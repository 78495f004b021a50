use Rattle.std.proofs.Common.{◌∙◌}
use Rattle.oas_runs.proofs.BlockLemmas.{turned}
use Rattle.oas_runs.proofs.growing.Growing.into_run.Goals as goal

pub returns : goal.returns
returns c = c.of.ensures ∙ turned c.self.inside.full c.turn-first.new.self c.turn-first.result c.self.inside.last c.args.self c.turn-first.ensures c.self.view_is
