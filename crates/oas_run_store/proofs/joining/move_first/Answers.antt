use Rattle.std.specs.Cmp.Lexicographic.{slice_cmp}
use Rattle.std.specs.Ordering.{nat_cmp}
use Rattle.std.proofs.lemmas.Cmp.{nat_list_cmp_total}
use Rattle.oas_run_store.proofs.JoinLemmas.{first_room, taken_run, moved_same}
use Rattle.oas_run_store.proofs.joining.move_first.Goals as goal

pub put-requires-clause-fits : goal.put-requires-clause-fits
put-requires-clause-fits c = first_room nat_list_cmp_total c.args.to.now c.args.from.now c.in-Some.ensures.some.0 (c.in-Some.entry.key.now, c.in-Some.entry.times)
    c.in-Some.ensures.some.1 c.requires.fits

pub returns-then-is_put-clause-from : goal.returns-then-is_put-clause-from
returns-then-is_put-clause-from c = taken_run (slice_cmp nat_cmp) c.args.from.now c.pass.new.self c.pass.ensures c.requires.from

pub returns-then-is_put-clause-same : goal.returns-then-is_put-clause-same
returns-then-is_put-clause-same c =
    moved_same c.args.to.now c.put.new.self c.args.from.now c.pass.new.self c.in-Some.ensures.some.0 (c.in-Some.entry.key.now, c.in-Some.entry.times)
    c.in-Some.ensures.some.1 c.pass.ensures (c.in_ok-is_put.ensures.put c.if-is_put.true)
