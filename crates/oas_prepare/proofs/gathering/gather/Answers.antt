use Rattle.std.proofs.lemmas.Result.{err_from_is_err_and}
use Rattle.oas_prepare.proofs.Gathered.{gathered_none}
use Rattle.oas_prepare.proofs.Ending.{not_ended, all_gathered, stops_by}
use Rattle.oas_prepare.proofs.gathering.gather.Goals as goal

pub returns-in_err-find_end_of_input : goal.returns-in_err-find_end_of_input
returns-in_err-find_end_of_input g c =
    let p = err_from_is_err_and c.from_residual-in_err-find_end_of_input.result c.from_residual-in_err-find_end_of_input.ensures.1 in
    let all = c.in_ok-at.ensures _ (gathered_none c.in_ok-head.ensures c.new-preparation.ensures.stands) in
    rw (p.1, p.2) (stops_by c.new-preparation.ensures.limits c.new-preparation.ensures.dropping (not_ended all _ c.in_err-find_end_of_input.ensures))

pub returns : goal.returns
returns g c =
    let all = c.in_ok-at.ensures _ (gathered_none c.in_ok-head.ensures c.new-preparation.ensures.stands) in
    let ends = c.in_ok-find_end_of_input.ensures in
    all_gathered all ends.0 ends.1 (rw c.new-preparation.ensures.unit c.in_ok-head.ensures.is_unit) c.new-preparation.ensures.limits c.new-preparation.ensures.dropping
