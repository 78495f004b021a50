use Rattle.std.proofs.Common.{[], ◌∷◌, decimal}
use Rattle.std.specs.Prelude.{codes}
use Rattle.std.proofs.lemmas.Result.{err_from_is_err_and}
use Rattle.oas_num.proofs.PuttingLemmas.{first, begins, fails_at, ends}
use Rattle.oas_listing.proofs.FieldLemmas.{point_fields}
use Rattle.oas_listing.proofs.elements.put_polygon.Goals as goal

pub returns-in_err-put_start : goal.returns-in_err-put_start
returns-in_err-put_start g c =
    let p = err_from_is_err_and c.from_residual.result c.from_residual.ensures.1 in
    rw (p.1, point_fields (codes "polygon") (decimal c.args.layer ∷ decimal c.args.datatype ∷ []) c.args.points) (fails_at _ (begins _ _) c.in_err-put_start.ensures)

pub returns : goal.returns
returns g c =
    rw (point_fields (codes "polygon") (decimal c.args.layer ∷ decimal c.args.datatype ∷ []) c.args.points) (ends _ _ (first _ c.in_ok-put_start.ensures) c.put_points.ensures)
