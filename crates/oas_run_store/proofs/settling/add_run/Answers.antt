use Rattle.std.specs.Cmp.Lexicographic.{slice_cmp}
use Rattle.std.specs.Ordering.{nat_cmp}
use Rattle.oas_run_store.proofs.PartLemmas.{more_runs, added_same}
use Rattle.oas_run_store.proofs.settling.add_run.Goals as goal

pub returns-clause-runs : goal.returns-clause-runs
returns-clause-runs c = more_runs (slice_cmp nat_cmp) c.push_reserved.new.self.items c.args.runs.now.items c.args.run c.push_reserved.ensures.items c.requires.runs c.requires.run

pub returns-clause-same : goal.returns-clause-same
returns-clause-same c = added_same c.args.runs.now.items c.push_reserved.new.self.items c.args.run c.push_reserved.ensures.items
