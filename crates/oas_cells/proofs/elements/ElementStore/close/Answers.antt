use Rattle.std.proofs.Common.{◌∙◌}
use Rattle.std.specs.Ordering.{nat_cmp}
use Rattle.std.specs.Cmp.Lexicographic.{slice_cmp}
use Rattle.oas_run_store.proofs.PartLemmas.{IsRun-empty}
use Rattle.oas_cells.proofs.elements.ElementStore.close.Goals as goal

pub returns-in-None-clause-run : goal.returns-in-None-clause-run
returns-in-None-clause-run c = IsRun-empty (slice_cmp nat_cmp) c.of_block.result (c.of_block.ensures ∙ c.new.ensures)
