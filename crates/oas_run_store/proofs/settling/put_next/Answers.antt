use Rattle.std.proofs.Common.{◌<◌, arith}
use Rattle.std.specs.Cmp.Lexicographic.{slice_cmp}
use Rattle.std.specs.Ordering.{nat_cmp}
use Rattle.std.proofs.lemmas.Cmp.{nat_list_cmp_total}
use Rattle.oas_run_store.proofs.AddLemmas.{run_push}
use Rattle.oas_run_store.proofs.LooseLemmas.{next_room, next_same, below_none}
use Rattle.oas_run_store.proofs.settling.put_next.Goals as goal

pub put-requires-clause-fits : goal.put-requires-clause-fits
put-requires-clause-fits c = next_room nat_list_cmp_total c.args.summing.now c.args.runs.now.items c.args.key.now c.args.times c.requires.fits

pub returns-in_ok-push-clause-run : goal.returns-in_ok-push-clause-run
returns-in_ok-push-clause-run c =
    let some : 0 < c.args.times = omega (arith, c.if-times-eq0.false) in
    run_push nat_list_cmp_total c.settle_rising.new.rising c.push.new.self c.args.key.now c.args.times some
    (below_none (slice_cmp nat_cmp) c.settle_rising.new.rising c.args.key.now c.in_ok-settle_rising.ensures.ok) c.settle_rising.ensures.run
    c.in_ok-push.ensures.ok

pub returns-else-not-branch-clause-same : goal.returns-else-not-branch-clause-same
returns-else-not-branch-clause-same c = next_same c.args.summing.now c.put.new.self c.args.runs.now.items c.args.key.now c.args.times (c.in_ok-put.ensures.put c.if-not-branch.false)
