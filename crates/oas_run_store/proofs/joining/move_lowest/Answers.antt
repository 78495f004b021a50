use Rattle.std.specs.Cmp.Lexicographic.{slice_cmp}
use Rattle.std.specs.Ordering.{nat_cmp}
use Rattle.oas_run_store.proofs.JoinLemmas.{one_fits, one_moved, one_fewer}
use Rattle.oas_run_store.proofs.joining.move_lowest.Goals as goal

pub move_first-requires-clause-fits : goal.move_first-requires-clause-fits
move_first-requires-clause-fits c =
    one_fits (slice_cmp nat_cmp) c.args.to.now c.in-Some-Some.run'.now c.in-Some-Some.run'.now c.args.runs.now.items c.lowest-index.result
    c.in-Some-Some.ensures.item.3.0 c.in-Some-Some.ensures.value c.requires.fits

pub returns-in_err-moved-clause-same : goal.returns-in_err-moved-clause-same
returns-in_err-moved-clause-same c =
    one_moved c.args.to.now c.move_first.new.to c.in-Some-Some.run'.now c.move_first.new.from c.in-Some-Some.run'.now c.args.runs.now.items c.lowest-index.result
    c.in-Some-Some.ensures.item.3.0 c.in-Some-Some.ensures.value c.move_first.ensures.same

pub returns-clause-same : goal.returns-clause-same
returns-clause-same c =
    one_moved c.args.to.now c.move_first.new.to c.in-Some-Some.run'.now c.move_first.new.from c.in-Some-Some.run'.now c.args.runs.now.items c.lowest-index.result
    c.in-Some-Some.ensures.item.3.0 c.in-Some-Some.ensures.value c.move_first.ensures.same

pub returns-clause-fewer : goal.returns-clause-fewer
returns-clause-fewer c = λ moved.
    one_fewer c.in-Some-Some.run'.now c.move_first.new.from c.in-Some-Some.run'.now c.args.runs.now.items c.lowest-index.result
    c.in-Some-Some.ensures.item.3.0 c.in-Some-Some.ensures.value (c.in_ok-moved.ensures.fewer moved)
