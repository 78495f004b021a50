use Rattle.std.proofs.Common.{[]}
use Rattle.std.specs.Cmp.Lexicographic.{slice_cmp}
use Rattle.std.specs.Ordering.{nat_cmp}
use Rattle.std.proofs.lemmas.Cmp.{nat_list_cmp_total}
use Rattle.std.proofs.lemmas.Map.Lookups.{exact_bytes}
use Rattle.oas_run_store.proofs.AddLemmas.{run_push, more_push, run_count, more_count, last_fits, alone_room}
use Rattle.oas_run_store.proofs.rising.Rising.put.Goals as goal

pub count_last-requires-clause-fits : goal.count_last-requires-clause-fits
count_last-requires-clause-fits c = last_fits nat_list_cmp_total exact_bytes c.args.self.now [] [] c.args.key.now c.args.times (c.order_of_last.ensures.last c.in-Equal.is)
    (alone_room (slice_cmp nat_cmp) c.args.self.now c.args.key.now c.args.times c.requires.fits)

pub returns-in_ok-push-in-Less-clause-run : goal.returns-in_ok-push-in-Less-clause-run
returns-in_ok-push-in-Less-clause-run c =
    run_push nat_list_cmp_total c.args.self.now c.push.new.self c.args.key.now c.args.times c.requires.some (c.order_of_last.ensures.below c.in-Less.is)
    c.requires.run c.in_ok-push-in-Less.ensures.ok

pub returns-in_ok-push-in-Less-clause-put : goal.returns-in_ok-push-in-Less-clause-put
returns-in_ok-push-in-Less-clause-put c = λ _. more_push c.args.self.now c.push.new.self c.args.key.now c.args.times c.in_ok-push-in-Less.ensures.ok

pub returns-in_ok-count_last-in-Equal-clause-run : goal.returns-in_ok-count_last-in-Equal-clause-run
returns-in_ok-count_last-in-Equal-clause-run c =
    run_count nat_list_cmp_total c.args.self.now c.count_last.new.self c.args.key.now c.args.times (c.order_of_last.ensures.last c.in-Equal.is)
    c.in_ok-count_last-in-Equal.ensures.ok c.requires.some c.requires.run

pub returns-in_ok-count_last-in-Equal-clause-put : goal.returns-in_ok-count_last-in-Equal-clause-put
returns-in_ok-count_last-in-Equal-clause-put c = λ _.
    more_count exact_bytes c.args.self.now c.count_last.new.self c.args.key.now c.args.times (c.order_of_last.ensures.last c.in-Equal.is)
    c.in_ok-count_last-in-Equal.ensures.ok
