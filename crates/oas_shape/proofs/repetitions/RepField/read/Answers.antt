use Rattle.std.proofs.lemmas.Result.{err_from_is_err_and}
use Rattle.std.proofs.Common.{refl, arith}
use Rattle.oas_num.specs.Laws.IntegerLaws.{PrefixFree-IsUnsigned}
use Rattle.oas_num.proofs.HalfwayLemmas.{fails_at, fails_last, is_read, such_took, such_refused}
use Rattle.oas_shape.specs.Repetitions.{IsRepetitionKind}
use Rattle.oas_shape.proofs.RepetitionLemmas.{starts, with_kind, again_read, new_read, new_fails}
use Rattle.oas_shape.proofs.repetitions.RepField.read.Goals as goal

pub returns-in_err-kind : goal.returns-in_err-kind
returns-in_err-kind g c =
    let p = err_from_is_err_and c.from_residual.result c.from_residual.ensures.1 in
    rw (p.1, p.2) (fails_at (starts _) (such_took c.in_err-kind.ensures))

pub returns-then-kind-gt-LAST_KIND : goal.returns-then-kind-gt-LAST_KIND
returns-then-kind-gt-LAST_KIND g c =
    let isnt : ¬ IsRepetitionKind c.in_ok-kind.kind = λ is. omega (arith, c.if-kind-gt-LAST_KIND.true) in
    fails_at (starts _) (such_refused PrefixFree-IsUnsigned refl isnt (refl, isnt) c.in_ok-kind.ensures)

pub returns-then-kind-eq0 : goal.returns-then-kind-eq0
returns-then-kind-eq0 g c = is_read (with_kind c.if-kind-gt-LAST_KIND.false c.in_ok-kind.ensures) (again_read _ _ c.if-kind-eq0.true)

pub returns-in_err-repetition : goal.returns-in_err-repetition
returns-in_err-repetition g c =
    let p = err_from_is_err_and c.from_residual-in_err-repetition.result c.from_residual-in_err-repetition.ensures.1 in
    rw (p.1, p.2) (fails_last (with_kind c.if-kind-gt-LAST_KIND.false c.in_ok-kind.ensures) (new_fails c.if-kind-eq0.false c.in_err-repetition.ensures))

pub returns : goal.returns
returns g c = is_read (with_kind c.if-kind-gt-LAST_KIND.false c.in_ok-kind.ensures) (new_read c.if-kind-eq0.false c.in_ok-repetition.ensures)
