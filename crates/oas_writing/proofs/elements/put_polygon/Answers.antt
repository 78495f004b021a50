use Rattle.std.proofs.lemmas.Result.{err_from_is_err_and}
use Rattle.oas_listing.proofs.PuttingLemmas.{first, first_fails, fails_at, last_fails, ends, ◌▸◌}
use Rattle.oas_writing.proofs.elements.put_polygon.Goals as goal

pub returns-in_err-front : goal.returns-in_err-front
returns-in_err-front g c =
    let p = err_from_is_err_and c.from_residual.result c.from_residual.ensures.1 in
    rw p.1 (first_fails _ c.in_err-front.ensures)

pub returns-in_err-first : goal.returns-in_err-first
returns-in_err-first g c =
    let p = err_from_is_err_and c.from_residual-in_err-first.result c.from_residual-in_err-first.ensures.1 in
    rw p.1 (fails_at _ (first _ c.in_ok-front.ensures) c.in_err-first.ensures.counts)

pub returns-in_err-second : goal.returns-in_err-second
returns-in_err-second g c =
    let p = err_from_is_err_and c.from_residual-in_err-second.result c.from_residual-in_err-second.ensures.1 in
    rw p.1 (fails_at _ (first _ c.in_ok-front.ensures ▸ c.in_ok-first.ensures.counts) c.in_err-second.ensures.counts)

pub returns-in_err-ring : goal.returns-in_err-ring
returns-in_err-ring g c =
    let p = err_from_is_err_and c.from_residual-in_err-ring.result c.from_residual-in_err-ring.ensures.1 in
    rw p.1 (last_fails (first _ c.in_ok-front.ensures ▸ c.in_ok-first.ensures.counts ▸ c.in_ok-second.ensures.counts) c.in_err-ring.ensures.counts)

pub returns : goal.returns
returns g c = ends (first _ c.in_ok-front.ensures ▸ c.in_ok-first.ensures.counts ▸ c.in_ok-second.ensures.counts) c.in_ok-ring.ensures.counts
