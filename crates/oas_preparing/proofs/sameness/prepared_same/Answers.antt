use Rattle.std.proofs.Common.{sym, ◌∙◌}
use Rattle.oas_preparing.proofs.SamenessLemmas.{compared, uncompared}
use Rattle.oas_preparing.proofs.sameness.prepared_same.Goals as goal

pub returns-in-Ok : goal.returns-in-Ok
returns-in-Ok g c =
    let one = c.in-Ok.ensures.0 in
    let other = c.in-Ok.ensures.1 in
    compared g.T.Source.script c.same.result one other (c.same.ensures (one.by ∙ sym other.by))

pub returns-in-Err : goal.returns-in-Err
returns-in-Err g c = uncompared g.T.Source.script c.in-Err.rejected c.in-Err.ensures
