use Rattle.std.proofs.Common.{Ok, sym, ap, ◌∙◌}
use Rattle.std.proofs.lemmas.Result.{err_from_is_err_and}
use Rattle.oas_num.specs.Script.{Script}
use Rattle.oas_judge.proofs.SeriesParts.{next_one, next_still}
use Rattle.oas_judge.proofs.parts.next_or_series.Goals as goal

pub returns-in_err-last : goal.returns-in_err-last
returns-in_err-last g c =
    let p = err_from_is_err_and c.from_residual.result c.from_residual.ensures.1 in
    rw (p.1, p.2) (λ profile now first judge b m. c.in_err-last.ensures profile now first judge b m)

pub returns-in-Some : goal.returns-in-Some
returns-in-Some g c = rw c.in-Some.is at c.in_ok-last.ensures

pub next_part-requires : goal.next_part-requires
next_part-requires g c =
    let h = rw c.in_default.is at c.in_ok-last.ensures in
    c.requires ∙ ap (λ (s : Script). s.given) (sym h.0)

pub returns-in_err-part : goal.returns-in_err-part
returns-in_err-part g c =
    let p = err_from_is_err_and c.from_residual-in_err-part.result c.from_residual-in_err-part.ensures.1 in
    let h = rw c.in_default.is at c.in_ok-last.ensures in
    rw (p.1, p.2) (rw (sym h.0, sym h.1, sym h.2) (λ profile now first judge b m. c.in_err-part.ensures profile now first judge b m))

pub returns : goal.returns
returns g c =
    let h = rw c.in_default.is at c.in_ok-last.ensures in
    let place = c.requires ∙ ap (λ (s : Script). s.given) (sym h.0) in
    next_still g.C.CellStore.store c.args.head.now _ _ _ _ _ _ _ _ _ (Ok (c.in_ok-part.part, c.args.at)) h
    (next_one g.C.CellStore.store c.args.head.now _ _ _ _ _ _ c.in_ok-part.part c.args.at place c.in_ok-part.ensures)
