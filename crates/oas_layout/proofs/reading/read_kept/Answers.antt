use Rattle.std.proofs.Common.{◌∙◌}
use Rattle.std.proofs.lemmas.Result.{err_from_is_err_and}
use Rattle.oas_form.proofs.Ending.{begun, refuses_within, not_ended}
use Rattle.oas_form.proofs.Refusing.{head_refuses}
use Rattle.oas_layout.proofs.ReadLemmas.{finishes}
use Rattle.oas_layout.proofs.reading.read_kept.Goals as goal

pub returns-in_err-head : goal.returns-in_err-head
returns-in_err-head g c =
    let p = err_from_is_err_and c.from_residual.result c.from_residual.ensures.1 in
    rw (p.1, p.2) (head_refuses _ c.in_err-head.ensures)

pub returns-in_err-end : goal.returns-in_err-end
returns-in_err-end g c =
    let p = err_from_is_err_and c.from_residual-in_err-end.result c.from_residual-in_err-end.ensures.1 in
    rw (p.1, p.2) (refuses_within c.new-reader.ensures.limits (c.in_err-end.ensures (begun c.in_ok-head.ensures c.new-reader.ensures.stands)))

pub returns-in_err-find_end_of_input : goal.returns-in_err-find_end_of_input
returns-in_err-find_end_of_input g c =
    let p = err_from_is_err_and c.from_residual-in_err-find_end_of_input.result c.from_residual-in_err-find_end_of_input.ensures.1 in
    let all = c.in_ok-end.ensures (begun c.in_ok-head.ensures c.new-reader.ensures.stands) in
    rw (p.1, p.2) (refuses_within c.new-reader.ensures.limits (not_ended all _ c.in_err-find_end_of_input.ensures))

pub returns : goal.returns
returns g c =
    let all = c.in_ok-end.ensures (begun c.in_ok-head.ensures c.new-reader.ensures.stands) in
    let ends = c.in_ok-find_end_of_input.ensures in
    let f = c.finish_layout.ensures in
    let stands = all.taken.stands in
    finishes all ends.0 ends.1 c.new-reader.ensures.unit c.new-reader.ensures.limits (c.new-reader.ensures.profile ∙ c.profile.ensures) c.finish_layout.result
    (f.accepted all.records stands) (f.refused all.records stands) (f.layout all.records stands)
