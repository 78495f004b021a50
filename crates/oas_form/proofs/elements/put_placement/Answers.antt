use Rattle.std.proofs.Common.{w64}
use Rattle.std.proofs.lemmas.Int.{to_z-of_z}
use Rattle.std.proofs.lemmas.Result.{err_from_is_err_and}
use Rattle.oas_form.proofs.PuttingLemmas.{first, first_fails, fails_at, last_fails, ends, ◌▸◌}
use Rattle.oas_form.proofs.elements.put_placement.Goals as goal

pub returns-in_err-front : goal.returns-in_err-front
returns-in_err-front g c =
    let p = err_from_is_err_and c.from_residual.result c.from_residual.ensures.1 in
    rw p.1 (first_fails _ (rw c.placement_info.ensures at c.in_err-front.ensures))

pub returns-in_err-name : goal.returns-in_err-name
returns-in_err-name g c =
    let p = err_from_is_err_and c.from_residual-in_err-name.result c.from_residual-in_err-name.ensures.1 in
    rw p.1 (fails_at _ (first _ (rw c.placement_info.ensures at c.in_ok-front.ensures)) c.in_err-name.ensures.counts)

pub returns-in_err-place : goal.returns-in_err-place
returns-in_err-place g c =
    let p = err_from_is_err_and c.from_residual-in_err-place.result c.from_residual-in_err-place.ensures.1 in
    rw p.1 (last_fails (first _ (rw c.placement_info.ensures at c.in_ok-front.ensures) ▸ c.in_ok-name.ensures.counts)
    (simp (to_z-of_z w64 c.args.x c.ranges.x, to_z-of_z w64 c.args.y c.ranges.y) at c.in_err-place.ensures.counts))

pub returns : goal.returns
returns g c = ends (first _ (rw c.placement_info.ensures at c.in_ok-front.ensures) ▸ c.in_ok-name.ensures.counts)
    (simp (to_z-of_z w64 c.args.x c.ranges.x, to_z-of_z w64 c.args.y c.ranges.y) at c.in_ok-place.ensures.counts)
