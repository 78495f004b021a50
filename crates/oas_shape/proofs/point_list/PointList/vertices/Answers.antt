use Rattle.std.proofs.Common.{ap, sym, length, arith, ◌∙◌}
use Rattle.std.specs.Option.{option_to_list}
use Rattle.std.proofs.lemmas.Result.{err_from_is_err_and}
use Rattle.oas_shape.proofs.VertexLemmas.{last_is, given_whole, may_whole}
use Rattle.oas_shape.proofs.point_list.PointList.vertices.Goals as goal

pub returns-in_err-points-clause-refused : goal.returns-in_err-points-clause-refused
returns-in_err-points-clause-refused c =
    let p = err_from_is_err_and c.from_residual.result c.from_residual.ensures.1 in
    rw (p.1, p.2) (may_whole c.args.self.now _ c.args.at _ _ c.self.view_is c.as_slice.ensures.value c.in_err-points.ensures.refused)

pub returns-in_ok-push-in-Some-clause-given : goal.returns-in_ok-push-in-Some-clause-given
returns-in_ok-push-in-Some-clause-given c =
    given_whole c.args.self.now _ c.args.at c.index-last.result.now c.in_ok-points.points.items _ _ _ c.self.view_is c.as_slice.ensures.value c.in_ok-points.ensures.given
    (last_is c.args.at c.index-last.result.now c.in_ok-points.points.items c.len-2.result (omega (arith, ap length c.in_ok-points.ensures.given)) (omega arith) c.index-last.ensures)
    (ap option_to_list (sym c.in-Some.is) ∙ c.point_left_out.ensures) c.in_ok-push-in-Some.ensures.items
