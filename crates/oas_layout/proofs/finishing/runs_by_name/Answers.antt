use Rattle.oas_layout.proofs.RunLemmas.{by_name}
use Rattle.oas_layout.proofs.finishing.runs_by_name.Goals as goal

pub returns-clause-ok : goal.returns-clause-ok
returns-clause-ok g c =
    by_name g.P.KeptBy.profile c.args.names.now.named c.args.strings.now.named c.args.cells.items _ _ c.in_ok-runs.ensures.ok c.requires.once c.sort_by_name.ensures.same c.sort_by_name.ensures.ascending
