use Rattle.std.specs.Cmp.Lexicographic.{slice_cmp}
use Rattle.std.specs.Ordering.{nat_cmp}
use Rattle.oas_runs.specs.Blocks.{joined}
use Rattle.oas_run_store.proofs.LooseLemmas.{apart_fit, put_to_runs, loose_settled}
use Rattle.oas_run_store.proofs.settling.settle_loose.Goals as goal

pub settled-requires : goal.settled-requires
settled-requires c = apart_fit (slice_cmp nat_cmp) c.args.loose.now (joined c.args.runs.now.items) c.requires.fits

pub returns-clause-same : goal.returns-clause-same
returns-clause-same c = loose_settled c.args.loose.now c.clear.new.self c.args.runs.now.items c.append.new.self.items c.clear.ensures
    (put_to_runs c.args.runs.now.items c.append.new.self.items c.in_ok-more.more.items c.args.loose.now c.in_ok-append.ensures.items
    c.in_ok-more.ensures.same)
