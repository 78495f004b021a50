use Rattle.std.proofs.Common.{refl}
use Rattle.std.proofs.lemmas.Result.{err_from_is_err_and}
use Rattle.oas_num.proofs.GrammarLemmas.{such_read}
use Rattle.oas_num.proofs.HalfwayLemmas.{such_took, such_refused}
use Rattle.oas_record.proofs.ElementLemmas.{allowed_by, refused_by}
use Rattle.oas_standard.specs.Reals.{wide_real}
use Rattle.oas_standard.specs.Heads.{IsPositive}
use Rattle.oas_standard.proofs.heads.read_unit.Goals as goal

pub returns-in_err-unit : goal.returns-in_err-unit
returns-in_err-unit g c =
    let p = err_from_is_err_and c.from_residual.result c.from_residual.ensures.1 in
    rw (p.1, p.2) (such_took c.in_err-unit.ensures)

pub returns-then-not-is_positive : goal.returns-then-not-is_positive
returns-then-not-is_positive g c = such_refused wide_real.found.one refl (refused_by c.is_positive.ensures c.if-not-is_positive.true)
    (refl, refused_by c.is_positive.ensures c.if-not-is_positive.true) c.in_ok-unit.ensures

pub returns : goal.returns
returns g c = such_read IsPositive wide_real.any _ _ _ (allowed_by c.is_positive.ensures c.if-not-is_positive.false) c.in_ok-unit.ensures
