use Rattle.std.specs.Cmp.Lexicographic.{slice_cmp}
use Rattle.std.specs.Ordering.{nat_cmp}
use Rattle.oas_run_store.proofs.PartLemmas.{IsRun-empty}
use Rattle.oas_run_store.proofs.settling.settle_rising.Goals as goal

pub returns-clause-run : goal.returns-clause-run
returns-clause-run c = IsRun-empty (slice_cmp nat_cmp) c.close-run.new.self c.close-run.ensures.emptied
