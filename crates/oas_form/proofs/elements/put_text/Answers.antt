use Rattle.std.proofs.Common.{w64}
use Rattle.std.proofs.lemmas.Int.{to_z-of_z}
use Rattle.std.proofs.lemmas.Result.{err_from_is_err_and}
use Rattle.oas_form.proofs.PuttingLemmas.{first, first_fails, fails_at, last_fails, ends, ◌▸◌}
use Rattle.oas_form.proofs.elements.put_text.Goals as goal

pub returns-in_err-front : goal.returns-in_err-front
returns-in_err-front g c =
    let p = err_from_is_err_and c.from_residual.result c.from_residual.ensures.1 in
    rw p.1 (first_fails _ c.in_err-front.ensures)

pub returns-in_err-label : goal.returns-in_err-label
returns-in_err-label g c =
    let p = err_from_is_err_and c.from_residual-in_err-label.result c.from_residual-in_err-label.ensures.1 in
    rw p.1 (fails_at _ (first _ c.in_ok-front.ensures) c.in_err-label.ensures.counts)

pub returns-in_err-layer : goal.returns-in_err-layer
returns-in_err-layer g c =
    let p = err_from_is_err_and c.from_residual-in_err-layer.result c.from_residual-in_err-layer.ensures.1 in
    rw p.1 (fails_at _ (first _ c.in_ok-front.ensures ▸ c.in_ok-label.ensures.counts) c.in_err-layer.ensures.counts)

pub returns-in_err-kind : goal.returns-in_err-kind
returns-in_err-kind g c =
    let p = err_from_is_err_and c.from_residual-in_err-kind.result c.from_residual-in_err-kind.ensures.1 in
    rw p.1 (fails_at _ (first _ c.in_ok-front.ensures ▸ c.in_ok-label.ensures.counts ▸ c.in_ok-layer.ensures.counts) c.in_err-kind.ensures.counts)

pub returns-in_err-place : goal.returns-in_err-place
returns-in_err-place g c =
    let p = err_from_is_err_and c.from_residual-in_err-place.result c.from_residual-in_err-place.ensures.1 in
    rw p.1 (last_fails (first _ c.in_ok-front.ensures ▸ c.in_ok-label.ensures.counts ▸ c.in_ok-layer.ensures.counts ▸ c.in_ok-kind.ensures.counts)
    (simp (to_z-of_z w64 c.args.x c.ranges.x, to_z-of_z w64 c.args.y c.ranges.y) at c.in_err-place.ensures.counts))

pub returns : goal.returns
returns g c = ends (first _ c.in_ok-front.ensures ▸ c.in_ok-label.ensures.counts ▸ c.in_ok-layer.ensures.counts ▸ c.in_ok-kind.ensures.counts)
    (simp (to_z-of_z w64 c.args.x c.ranges.x, to_z-of_z w64 c.args.y c.ranges.y) at c.in_ok-place.ensures.counts)
