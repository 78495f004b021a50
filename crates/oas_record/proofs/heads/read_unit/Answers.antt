use Rattle.std.proofs.Common.{refl}
use Rattle.std.proofs.lemmas.Result.{err_from_is_err_and}
use Rattle.oas_record.proofs.HeadLemmas.{unit_fails, unit_refused, negative_isnt, zero_isnt}
use Rattle.oas_record.proofs.heads.read_unit.Goals as goal

pub returns-in_err-real : goal.returns-in_err-real
returns-in_err-real g c =
    let p = err_from_is_err_and c.from_residual.result c.from_residual.ensures.1 in
    rw (p.1, p.2) (unit_fails c.in_err-real.ensures)

pub returns-then-real : goal.returns-then-real
returns-then-real g c = unit_refused _ (negative_isnt _ c.if-real.true) c.in_ok-real.ensures

pub returns-in-None : goal.returns-in-None
returns-in-None g c = unit_refused _ (zero_isnt _ (c.in-None.ensures.none.0 refl)) c.in_ok-real.ensures
