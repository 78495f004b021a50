use Rattle.std.proofs.Common.{◌∙◌}
use Rattle.oas_runs.specs.Blocks.{joined}
use Rattle.oas_runs.proofs.BlockLemmas.{back-nil}
use Rattle.oas_runs.proofs.growing.Growing.is_empty.Goals as goal

pub returns-clause-some : goal.returns-clause-some
returns-clause-some c = λ f e. c.is_empty.ensures.left f (back-nil (joined c.self.inside.full) c.self.inside.last (c.self.view_is ∙ e))
