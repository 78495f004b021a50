use Rattle.std.proofs.Common.{ap}
use Rattle.std.proofs.lemmas.Result.{err_from_is_err_and}
use Rattle.oas_num.proofs.PuttingLemmas.{begins, fails_at, ends, ◌▸◌}
use Rattle.oas_diff_text.specs.Fields.{separated}
use Rattle.oas_diff_text.proofs.EntryLemmas.{left_is}
use Rattle.oas_diff_text.proofs.fields.put_separated.Goals as goal

pub returns-in_err-put_place : goal.returns-in_err-put_place
returns-in_err-put_place g c =
    let p = err_from_is_err_and c.from_residual.result c.from_residual.ensures.1 in
    rw p.1 (fails_at _ (left_is (begins _ _) (ap (separated c.args.byte c.args.syntax c.args.scale.now) c.in-Some.ensures.steps)) c.in_err-put_place.ensures)

pub returns : goal.returns
returns g c =
    ends _ _ (left_is (begins _ _) (ap (separated c.args.byte c.args.syntax c.args.scale.now) c.in-Some.ensures.steps) ▸ c.in_ok-put_place.ensures) c.put_rest.ensures
