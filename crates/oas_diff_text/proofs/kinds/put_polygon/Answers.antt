use Rattle.std.proofs.Common.{[], ◌∷◌, decimal}
use Rattle.std.specs.Prelude.{codes}
use Rattle.std.proofs.lemmas.Result.{err_from_is_err_and}
use Rattle.oas_num.proofs.PuttingLemmas.{begins, fails_at, ends, ◌▸◌}
use Rattle.oas_diff_text.proofs.EntryLemmas.{left_is}
use Rattle.oas_diff_text.proofs.FieldLemmas.{points_last}
use Rattle.oas_diff_text.proofs.kinds.put_polygon.Goals as goal

pub returns-in_err-put_fields : goal.returns-in_err-put_fields
returns-in_err-put_fields g c =
    let p = err_from_is_err_and c.from_residual.result c.from_residual.ensures.1 in
    let whole = points_last c.args.syntax c.args.scale.now ((codes "layer", decimal c.args.layer) ∷ (codes "datatype", decimal c.args.datatype) ∷ []) c.args.points in
    rw p.1 (fails_at _ (left_is (begins _ _) whole) c.in_err-put_fields.ensures)

pub returns : goal.returns
returns g c =
    let whole = points_last c.args.syntax c.args.scale.now ((codes "layer", decimal c.args.layer) ∷ (codes "datatype", decimal c.args.datatype) ∷ []) c.args.points in
    ends _ _ (left_is (begins _ _) whole ▸ c.in_ok-put_fields.ensures) c.put_points.ensures
