use Rattle.oas_layout.proofs.SealLemmas.{begins, goes_on, all_closed}
use Rattle.oas_layout.proofs.sealing.close_all.Goals as goal

pub loop-name-init : goal.loop-name-init
loop-name-init c = begins c.args.cells.entries _ _ c.into_iter-name-iterator.ensures.into_iter_gives.4 c.into_iter-name-iterator.ensures.into_iter_gives.0 c.in_ok-runs.ensures.items

pub loop-name-preserved : goal.loop-name-preserved
loop-name-preserved c =
    goes_on c.args.cells.entries c.loop-name.name-iterator c.next.new.self c.in-Some.name c.in-Some.cell c.in_ok-run.run' c.loop-name.runs.items c.push.new.self.items c.in-Some.ensures.steps
    c.in_ok-run.ensures.sound c.in_ok-run.ensures.keys c.in_ok-push.ensures.items c.loop-name.invariant

pub returns : goal.returns
returns c = all_closed c.args.cells.entries _ _ c.in-None.ensures.steps.0 c.loop-name.invariant
