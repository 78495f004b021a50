use Rattle.std.proofs.Common.{◌<◌, ℕ, List, sym, subst, arith}
use Rattle.oas_num.specs.Writing.{Writes}
use Rattle.oas_markers.specs.Markers.{change_item}
use Rattle.oas_markers.proofs.Firsts.{first_one}
use Rattle.oas_markers.proofs.cells.put_first_change.Goals as goal

pub returns-clause-writes : goal.returns-clause-writes
returns-clause-writes g c =
    let some : 0 < c.args.left.now = omega (arith, c.if-left-eq0.false) in
    let change = c.args.change in
    subst (λ (bs : List ℕ). Writes g.K.Sink.given g.K.Sink.failures c.args.sink.now bs c.put_change.result c.put_change.new.sink)
    (sym (first_one c.args.left.now (change_item c.args.gone c.args.come c.args.name.now (change.element, (change.before, change.after))) some)) c.put_change.ensures
