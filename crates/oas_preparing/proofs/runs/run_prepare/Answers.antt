use Rattle.std.proofs.Common.{rules}
use Rattle.oas_explain.proofs.MessageLemmas.{closed, said, same_name}
use Rattle.oas_preparing.proofs.JudgedLemmas.{on_each}
use Rattle.oas_preparing.proofs.RunLemmas.{ended}
use Rattle.oas_preparing.proofs.runs.run_prepare.Goals as goal

pub returns : goal.returns
returns g c =
    let opens = c.new-told.ensures in
    on_each _ _ _ c.prepare_telling-status.result
    (λ again last status ran.
    let front = closed _ _ _ _ _ _ _ (ended g.E.Device.calls _ _ _ _ _ opens ran.3) c.close.ensures.writes c.close.ensures.all in
    let name = same_name _ _ _ _ _ opens front in
    (ran.0, ran.1, ran.2, said _ _ _ _ _ _ opens front (search rules)))
    c.prepare_telling-status.ensures
