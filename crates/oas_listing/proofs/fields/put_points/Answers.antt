use Rattle.std.proofs.Common.{◌≡◌, rules}
use Rattle.std.proofs.lemmas.Result.{err_from_is_err_and}
use Rattle.oas_listing.proofs.PointLemmas.{points_begin, point_fails, point_put, points_end}
use Rattle.oas_listing.proofs.fields.put_points.Goals as goal

pub loop-point-init : goal.loop-point-init
loop-point-init g c =
    let same : c.into_iter-point-iterator.result ≡ c.args.points = search rules in
    points_begin c.args.points c.into_iter-point-iterator.result _ same

pub returns-in_err-put_point : goal.returns-in_err-put_point
returns-in_err-put_point g c =
    let p = err_from_is_err_and c.from_residual.result c.from_residual.ensures.1 in
    rw p.1 (point_fails c.args.points _ _ _ c.in-Some.ensures.steps c.loop-point.invariant c.in_err-put_point.ensures)

pub loop-point-preserved : goal.loop-point-preserved
loop-point-preserved g c = point_put c.args.points _ _ _ c.in-Some.ensures.steps c.loop-point.invariant c.in_ok-put_point.ensures

pub returns : goal.returns
returns g c = points_end c.args.points _ c.loop-point.invariant c.in-None.ensures.steps.0
