use Rattle.std.proofs.Common.{refl, arith}
use Rattle.std.proofs.lemmas.Result.{err_from_is_err_and}
use Rattle.oas_num.specs.Integers.{IsUnsigned}
use Rattle.oas_num.specs.Laws.IntegerLaws.{PrefixFree-IsUnsigned}
use Rattle.oas_num.proofs.GrammarLemmas.{such_read}
use Rattle.oas_num.proofs.HalfwayLemmas.{such_took, such_refused}
use Rattle.oas_standard.specs.Trapezoids.{IsShapeKind}
use Rattle.oas_standard.proofs.trapezoids.read_shape_kind.Goals as goal

pub returns-in_err-kind : goal.returns-in_err-kind
returns-in_err-kind g c =
    let p = err_from_is_err_and c.from_residual.result c.from_residual.ensures.1 in
    rw (p.1, p.2) (such_took c.in_err-kind.ensures)

pub returns-then-kind-ge26 : goal.returns-then-kind-ge26
returns-then-kind-ge26 g c = such_refused PrefixFree-IsUnsigned refl (λ lt. omega (arith, lt, c.if-kind-ge26.true)) (refl, λ lt. omega (arith, lt, c.if-kind-ge26.true)) c.in_ok-kind.ensures

pub returns : goal.returns
returns g c = such_read IsShapeKind IsUnsigned _ _ _ (omega (arith, c.if-kind-ge26.false)) c.in_ok-kind.ensures
