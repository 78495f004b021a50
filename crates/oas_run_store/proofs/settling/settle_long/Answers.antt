use Rattle.std.specs.Cmp.Lexicographic.{slice_cmp}
use Rattle.std.specs.Ordering.{nat_cmp}
use Rattle.oas_run_store.proofs.PartLemmas.{rising_fit, rising_parts, rising_same}
use Rattle.oas_run_store.proofs.settling.settle_long.Goals as goal

pub settle_rising-requires-clause-fits : goal.settle_rising-requires-clause-fits
settle_rising-requires-clause-fits c = rising_fit (slice_cmp nat_cmp) c.args.rising.now c.args.loose.now c.args.runs.now.items c.requires.fits

pub returns-clause-parts : goal.returns-clause-parts
returns-clause-parts c = rising_parts (slice_cmp nat_cmp) c.args.rising.now c.args.loose.now c.settle_rising.new.rising
    c.args.runs.now.items c.settle_rising.new.runs.items c.requires c.settle_rising.ensures.run c.settle_rising.ensures.runs c.settle_rising.ensures.same

pub returns-clause-same : goal.returns-clause-same
returns-clause-same c = rising_same c.args.rising.now c.args.loose.now c.settle_rising.new.rising c.args.runs.now.items
    c.settle_rising.new.runs.items c.settle_rising.ensures.same
