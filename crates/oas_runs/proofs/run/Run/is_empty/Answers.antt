use Rattle.std.proofs.Common.{◌∙◌}
use Rattle.oas_runs.specs.Blocks.{joined}
use Rattle.oas_runs.proofs.BlockLemmas.{front-nil}
use Rattle.oas_runs.proofs.run.Run.is_empty.Goals as goal

pub returns-clause-left : goal.returns-clause-left
returns-clause-left c = λ f e. c.is_empty.ensures.left f (front-nil c.self.inside.first (joined c.self.inside.rest) (c.self.view_is ∙ e))
