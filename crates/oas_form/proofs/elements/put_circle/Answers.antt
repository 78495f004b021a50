use Rattle.std.proofs.Common.{w64}
use Rattle.std.proofs.lemmas.Int.{to_z-of_z}
use Rattle.std.proofs.lemmas.Result.{err_from_is_err_and}
use Rattle.oas_form.proofs.PuttingLemmas.{first, first_fails, fails_at, last_fails, ends, ◌▸◌}
use Rattle.oas_form.proofs.elements.put_circle.Goals as goal

pub returns-in_err-front : goal.returns-in_err-front
returns-in_err-front g c =
    let p = err_from_is_err_and c.from_residual.result c.from_residual.ensures.1 in
    rw p.1 (first_fails _ c.in_err-front.ensures)

pub returns-in_err-first : goal.returns-in_err-first
returns-in_err-first g c =
    let p = err_from_is_err_and c.from_residual-in_err-first.result c.from_residual-in_err-first.ensures.1 in
    rw p.1 (fails_at _ (first _ c.in_ok-front.ensures) c.in_err-first.ensures.counts)

pub returns-in_err-second : goal.returns-in_err-second
returns-in_err-second g c =
    let p = err_from_is_err_and c.from_residual-in_err-second.result c.from_residual-in_err-second.ensures.1 in
    rw p.1 (fails_at _ (first _ c.in_ok-front.ensures ▸ c.in_ok-first.ensures.counts) c.in_err-second.ensures.counts)

pub returns-in_err-round : goal.returns-in_err-round
returns-in_err-round g c =
    let p = err_from_is_err_and c.from_residual-in_err-round.result c.from_residual-in_err-round.ensures.1 in
    rw p.1 (fails_at _ (first _ c.in_ok-front.ensures ▸ c.in_ok-first.ensures.counts ▸ c.in_ok-second.ensures.counts) c.in_err-round.ensures.counts)

pub returns-in_err-place : goal.returns-in_err-place
returns-in_err-place g c =
    let p = err_from_is_err_and c.from_residual-in_err-place.result c.from_residual-in_err-place.ensures.1 in
    rw p.1 (last_fails (first _ c.in_ok-front.ensures ▸ c.in_ok-first.ensures.counts ▸ c.in_ok-second.ensures.counts ▸ c.in_ok-round.ensures.counts)
    (simp (to_z-of_z w64 c.args.x c.ranges.x, to_z-of_z w64 c.args.y c.ranges.y) at c.in_err-place.ensures.counts))

pub returns : goal.returns
returns g c = ends (first _ c.in_ok-front.ensures ▸ c.in_ok-first.ensures.counts ▸ c.in_ok-second.ensures.counts ▸ c.in_ok-round.ensures.counts)
    (simp (to_z-of_z w64 c.args.x c.ranges.x, to_z-of_z w64 c.args.y c.ranges.y) at c.in_ok-place.ensures.counts)
