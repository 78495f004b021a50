use Rattle.std.proofs.Common.{rules}
use Rattle.oas_command.proofs.MessageLemmas.{told, closed, said, same_name}
use Rattle.oas_command.proofs.runs.ends.run_refused.Goals as goal

pub returns-clause-tells : goal.returns-clause-tells
returns-clause-tells g c =
    let opens = c.new-told.ensures in
    let front = closed _ _ _ _ _ _ _ (told g.E.Device.calls _ _ _ _ opens c.refuse-status.ensures.tells) c.close.ensures.writes c.close.ensures.all in
    let name = same_name _ _ _ _ _ opens front in
    said _ _ _ _ _ _ opens front (search rules)

pub returns-clause-status : goal.returns-clause-status
returns-clause-status g c = search rules
