use Rattle.std.proofs.Common.{arith}
use Rattle.oas_peek.proofs.ListLemmas.{line_takes}
use Rattle.oas_peek.proofs.lists.take_list.Goals as goal

pub returns : goal.returns
returns c =
    rw c.of_kind.ensures (line_takes c.args.purpose c.in_ok-kind.kind c.in_ok-count.count c.in_ok-deltas.deltas.items c.in_ok-kind.ensures (omega arith)
    (rw c.note.ensures at c.in_ok-count.ensures) (c.fits.ensures.0 c.if-not-fits.false) c.in_ok-deltas.ensures)
