use Rattle.std.proofs.Common.{rules}
use Rattle.oas_command.proofs.MessageLemmas.{told, closed, said, same_name}
use Rattle.oas_explain.proofs.telling.explain_reason.Goals as goal

pub returns : goal.returns
returns g c =
    let opens = c.new-told.ensures in
    let front = closed _ _ _ _ _ _ _ (told g.E.Device.calls _ _ _ _ opens c.told_reason.ensures) c.close.ensures.writes c.close.ensures.all in
    let name = same_name _ _ _ _ _ opens front in
    said _ _ _ _ _ _ opens front (search rules)
