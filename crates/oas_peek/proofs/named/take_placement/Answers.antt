use Rattle.oas_peek.proofs.NamedLemmas.{lacks, placement_takes}
use Rattle.oas_peek.proofs.named.take_placement.Goals as goal

pub returns : goal.returns
returns c =
    let once = lacks c.in_ok-info.info 8 c.if-info-ne0.false in
    rw c.note.ensures (placement_takes c.in_ok-info.info c.in_ok-cell.cell c.gives_all.result c.in_ok-info.ensures once c.in_ok-cell.ensures c.in_ok-x.ensures c.in_ok-y.ensures c.gives_all.ensures.0)
