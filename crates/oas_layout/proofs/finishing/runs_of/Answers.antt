use Rattle.std.proofs.Common.{◌≡◌, [], rules}
use Rattle.oas_layout.proofs.RunLemmas.{last_sound, loop_begins, loop_goes, loop_ends}
use Rattle.oas_layout.proofs.finishing.runs_of.Goals as goal

pub loop-cell-init : goal.loop-cell-init
loop-cell-init g c =
    loop_begins g.P.KeptBy.profile c.args.names.now.named c.args.strings.now.named c.args.cells.items c.in_ok-runs.runs.items c.in_ok-runs.ensures.items c.requires

pub put_run-requires : goal.put_run-requires
put_run-requires g c =
    (last_sound g.P.KeptBy.profile c.args.names.now.named c.args.strings.now.named c.loop-cell.left.items c.pop.new.self.items c.in-Some.cell c.in-Some.ensures.items c.loop-cell.invariant.sound).0

pub loop-cell-preserved : goal.loop-cell-preserved
loop-cell-preserved g c = rw c.fit.ensures (
    loop_goes g.P.KeptBy.profile c.args.names.now.named c.args.strings.now.named c.args.cells.items c.loop-cell.left.items c.pop.new.self.items c.in-Some.cell c.loop-cell.runs.items c.put_run.new.runs.items
    c.in-Some.ensures.items c.loop-cell.invariant c.in_ok-put_run.ensures.ok)

pub returns-clause-ok : goal.returns-clause-ok
returns-clause-ok g c =
    let none : c.loop-cell.left.items ≡ [] = search rules in
    loop_ends g.P.KeptBy.profile c.args.names.now.named c.args.strings.now.named c.args.cells.items c.loop-cell.left.items c.loop-cell.runs.items none c.loop-cell.invariant
