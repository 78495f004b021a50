use Rattle.std.proofs.Common.{◌∙◌}
use Rattle.oas_runs.specs.Blocks.{joined}
use Rattle.oas_cells.proofs.SortLemmas.{waits_again}
use Rattle.oas_cells.proofs.sorting.in_order.Goals as goal

pub returns-in_ok-sorted-in-Some-clause-waits : goal.returns-in_ok-sorted-in-Some-clause-waits
returns-in_ok-sorted-in-Some-clause-waits c =
    waits_again (joined c.in_ok-sorted-in-Some.sorted.items) (joined c.args.row.items)
    (λ g. c.in_ok-sorted-in-Some.ensures.same g ∙ c.in_ok-parts-in-Some.ensures g) c.in_ok-sorted-in-Some.ensures.once
