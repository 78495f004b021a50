use Rattle.oas_cells.proofs.DrawLemmas.{begun}
use Rattle.oas_cells.proofs.cells.CompactCellCellStore.begin.Goals as goal

pub returns : goal.returns
returns g c = begun g.P.KeptBy.profile c.args.cell _ (λ i. record { cell = c.args.cell; weight = 0; keys = c.new.ensures.keys i; waiting = c.new.ensures.waiting i })
