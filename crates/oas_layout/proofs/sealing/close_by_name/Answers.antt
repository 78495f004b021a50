use Rattle.oas_layout.proofs.SealLemmas.{by_name}
use Rattle.oas_layout.proofs.sealing.close_by_name.Goals as goal

pub returns : goal.returns
returns c = by_name c.args.cells.entries _ _ c.in_ok-runs.ensures c.sort_by_name.ensures.same c.sort_by_name.ensures.ascending
