use Rattle.std.proofs.Common.{rules}
use Rattle.oas_command.proofs.MessageLemmas.{told, closed, said, same_name}
use Rattle.oas_explain.proofs.telling.print_explained.Goals as goal

pub returns : goal.returns
returns g c =
    let opens = c.new-told.ensures in
    let ran = c.told_explained.ensures in
    let front = closed _ _ _ _ _ _ _ (told g.E.Device.calls _ _ _ _ opens ran.2) c.close.ensures.writes c.close.ensures.all in
    let name = same_name _ _ _ _ _ opens front in
    (ran.0, ran.1, said _ _ _ _ _ _ opens front (search rules))
