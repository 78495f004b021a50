use Rattle.std.proofs.Common.{◌<◌, ℕ, List, sym, subst, arith}
use Rattle.oas_num.specs.Writing.{Writes}
use Rattle.oas_markers.specs.Markers.{cell_item}
use Rattle.oas_markers.proofs.Firsts.{first_one}
use Rattle.oas_markers.proofs.cells.put_cell_alone.Goals as goal

pub returns-clause-writes : goal.returns-clause-writes
returns-clause-writes g c =
    let some : 0 < c.args.left.now = omega (arith, c.if-left-eq0.false) in
    subst (λ (bs : List ℕ). Writes g.K.Sink.given g.K.Sink.failures c.args.sink.now bs c.put_cell_item.result c.put_cell_item.new.sink)
    (sym (first_one c.args.left.now (cell_item c.args.way c.args.name.now) some)) c.put_cell_item.ensures
