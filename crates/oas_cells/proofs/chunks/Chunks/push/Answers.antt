use Rattle.std.proofs.Common.{◌∙◌}
use Rattle.oas_runs.proofs.BlockLemmas.{in_last}
use Rattle.oas_cells.specs.Short.{drawn_of}
use Rattle.oas_cells.proofs.chunks.Chunks.push.Goals as goal

pub returns-clause-ok : goal.returns-clause-ok
returns-clause-ok c =
    in_last c.set_aside.new.full.items c.set_aside.new.last c.push.new.self c.args.self.now (drawn_of c.args.short, 1) c.in_ok-push.ensures.ok
    (c.set_aside.ensures ∙ c.self.view_is)
