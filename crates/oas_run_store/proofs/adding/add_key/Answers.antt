use Rattle.std.specs.Cmp.Lexicographic.{slice_cmp}
use Rattle.std.specs.Ordering.{nat_cmp}
use Rattle.std.proofs.lemmas.Cmp.{nat_list_cmp_total}
use Rattle.std.proofs.lemmas.Map.Lookups.{exact_bytes}
use Rattle.oas_run_store.proofs.AddLemmas.{parts_rising, more_rising, rising_room}
use Rattle.oas_run_store.proofs.adding.add_key.Goals as goal

pub put-requires-clause-fits : goal.put-requires-clause-fits
put-requires-clause-fits c = rising_room (slice_cmp nat_cmp) c.args.rising.now c.args.loose.now c.args.runs.now.items c.args.key.now c.args.times c.requires.room

pub returns-then-branch-clause-parts : goal.returns-then-branch-clause-parts
returns-then-branch-clause-parts c =
    parts_rising nat_list_cmp_total exact_bytes c.args.rising.now c.put.new.self c.args.loose.now c.args.runs.now.items c.args.key.now c.args.times c.requires.parts
    c.put.ensures.run (c.in_ok-put.ensures.put c.if-branch.true) c.requires.room

pub returns-then-branch-clause-ok : goal.returns-then-branch-clause-ok
returns-then-branch-clause-ok c = more_rising c.args.rising.now c.put.new.self c.args.loose.now c.args.runs.now.items c.args.key.now c.args.times
    (c.in_ok-put.ensures.put c.if-branch.true)
