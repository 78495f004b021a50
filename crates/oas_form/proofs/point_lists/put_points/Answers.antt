use Rattle.std.proofs.Common.{w64}
use Rattle.std.proofs.lemmas.Int.{to_z-of_z}
use Rattle.std.proofs.lemmas.Result.{err_from_is_err_and}
use Rattle.oas_form.proofs.PointPutting.{split_is, first_inside, x_fits, y_fits}
use Rattle.oas_form.proofs.PuttingLemmas.{first, first_fails, last_fails, ends}
use Rattle.oas_form.proofs.point_lists.put_points.Goals as goal

pub returns-in_err-list-clause-counts : goal.returns-in_err-list-clause-counts
returns-in_err-list-clause-counts g c =
    let p = err_from_is_err_and c.from_residual.result c.from_residual.ensures.1 in
    let e = split_is c.args.points.now c.split_first.result c.unwrap.result c.split_first.ensures.cases c.unwrap.ensures in
    rw (p.1, e) (first_fails _ c.in_err-list.ensures.counts)

pub returns-in_err-place-clause-counts : goal.returns-in_err-place-clause-counts
returns-in_err-place-clause-counts g c =
    let p = err_from_is_err_and c.from_residual-in_err-place.result c.from_residual-in_err-place.ensures.1 in
    let e = split_is c.args.points.now c.split_first.result c.unwrap.result c.split_first.ensures.cases c.unwrap.ensures in
    let inside = first_inside c.args.points.now c.unwrap.result.0.now c.unwrap.result.1.now e c.requires.inside in
    rw (p.1, e) (last_fails (first _ c.in_ok-list.ensures.counts)
    (simp (
      to_z-of_z w64 c.unwrap.result.0.now.x (x_fits c.unwrap.result.0.now inside),
      to_z-of_z w64 c.unwrap.result.0.now.y
          (y_fits c.unwrap.result.0.now inside),
    ) at c.in_err-place.ensures.counts))

pub returns-clause-counts : goal.returns-clause-counts
returns-clause-counts g c =
    let e = split_is c.args.points.now c.split_first.result c.unwrap.result c.split_first.ensures.cases c.unwrap.ensures in
    let inside = first_inside c.args.points.now c.unwrap.result.0.now c.unwrap.result.1.now e c.requires.inside in
    rw e (ends (first _ c.in_ok-list.ensures.counts)
    (simp (
      to_z-of_z w64 c.unwrap.result.0.now.x (x_fits c.unwrap.result.0.now inside),
      to_z-of_z w64 c.unwrap.result.0.now.y
          (y_fits c.unwrap.result.0.now inside),
    ) at c.in_ok-place.ensures.counts))
