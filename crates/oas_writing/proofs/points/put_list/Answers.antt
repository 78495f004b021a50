use Rattle.std.proofs.Common.{arith}
use Rattle.std.proofs.lemmas.Result.{err_from_is_err_and}
use Rattle.oas_listing.proofs.PointPutting.{list_is}
use Rattle.oas_listing.proofs.PuttingLemmas.{first, first_fails, fails_at, last_fails, ends, ◌▸◌}
use Rattle.oas_writing.proofs.points.put_list.Goals as goal

pub count-requires : goal.count-requires
count-requires g c = let r = c.requires in (r.0, r.1, r.2)

pub returns-in_err-kind-clause-counts : goal.returns-in_err-kind-clause-counts
returns-in_err-kind-clause-counts g c p rest h =
    let e = err_from_is_err_and c.from_residual.result c.from_residual.ensures.1 in
    rw (e.1, list_is p rest) (first_fails _ c.in_err-kind.ensures)

pub returns-in_err-size-clause-counts : goal.returns-in_err-size-clause-counts
returns-in_err-size-clause-counts g c p rest h =
    let e = err_from_is_err_and c.from_residual-in_err-size.result c.from_residual-in_err-size.ensures.1 in
    rw (e.1, list_is p rest) (fails_at _ (first _ c.in_ok-kind.ensures) (rw (c.count.ensures p rest h) at c.in_err-size.ensures.counts))

pub returns-in_err-steps-clause-counts : goal.returns-in_err-steps-clause-counts
returns-in_err-steps-clause-counts g c p rest h =
    let e = err_from_is_err_and c.from_residual-in_err-steps.result c.from_residual-in_err-steps.ensures.1 in
    rw (e.1, list_is p rest)
    (last_fails (first _ c.in_ok-kind.ensures ▸ (rw (c.count.ensures p rest h) at c.in_ok-size.ensures.counts)) (c.in_err-steps.ensures.counts p rest h))

pub returns-clause-counts : goal.returns-clause-counts
returns-clause-counts g c p rest h =
    rw (list_is p rest) (ends (first _ c.in_ok-kind.ensures ▸ (rw (c.count.ensures p rest h) at c.in_ok-size.ensures.counts)) (c.in_ok-steps.ensures.counts p rest h))

pub overflow_add-result-2 : goal.overflow_add-result-2
overflow_add-result-2 g c =
    let r = c.requires in
    omega (arith, r.3, c.in_ok-kind.ensures.count_is, c.in_ok-size.ensures.short, c.in_ok-steps.ensures.short r.0 r.1 r.2)

pub returns-clause-short : goal.returns-clause-short
returns-clause-short g c p rest h = omega (arith, c.in_ok-kind.ensures.count_is, c.in_ok-size.ensures.short, c.in_ok-steps.ensures.short p rest h)
