use Rattle.std.proofs.Common.{IsTrue, false, refl, rules, arith}
use Rattle.std.proofs.lemmas.Result.{err_from_is_err_and}
use Rattle.oas_num.specs.Laws.IntegerLaws.{PrefixFree-IsUnsigned}
use Rattle.oas_num.proofs.HalfwayLemmas.{fails_at, fails_last, is_read, such_took, such_refused}
use Rattle.oas_shape.specs.ListUses.{IsFitting}
use Rattle.oas_shape.specs.PointLists.{IsListKind}
use Rattle.oas_shape.proofs.PointListLemmas.{starts, with_kind, with_count}
use Rattle.oas_shape.proofs.point_list.PointList.read.Goals as goal

pub returns-in_err-kind : goal.returns-in_err-kind
returns-in_err-kind g c =
    let p = err_from_is_err_and c.from_residual.result c.from_residual.ensures.1 in
    rw (p.1, p.2) (fails_at (starts _ _) (such_took c.in_err-kind.ensures))

pub returns-then-kind-gt-LAST_KIND : goal.returns-then-kind-gt-LAST_KIND
returns-then-kind-gt-LAST_KIND g c =
    let isnt : ¬ IsListKind c.in_ok-kind.kind = λ is. omega (arith, c.if-kind-gt-LAST_KIND.true) in
    fails_at (starts _ _) (such_refused PrefixFree-IsUnsigned refl isnt (refl, isnt) c.in_ok-kind.ensures)

pub returns-in_err-count : goal.returns-in_err-count
returns-in_err-count g c =
    let p = err_from_is_err_and c.from_residual-in_err-count.result c.from_residual-in_err-count.ensures.1 in
    rw (p.1, p.2) (fails_at (with_kind _ c.if-kind-gt-LAST_KIND.false c.in_ok-kind.ensures) (such_took c.in_err-count.ensures))

pub returns-then-not-fits : goal.returns-then-not-fits
returns-then-not-fits g c =
    let isnt : ¬ IsFitting c.args.list_use c.in_ok-kind.kind c.in_ok-count.count = λ fits. let e : IsTrue false = c.if-not-fits.ensures.1 fits in absurd cc in
    fails_at (with_kind _ c.if-kind-gt-LAST_KIND.false c.in_ok-kind.ensures) (such_refused PrefixFree-IsUnsigned refl isnt (refl, isnt) c.in_ok-count.ensures)

pub returns-in_err-deltas : goal.returns-in_err-deltas
returns-in_err-deltas g c =
    let p = err_from_is_err_and c.from_residual-in_err-deltas.result c.from_residual-in_err-deltas.ensures.1 in
    rw (p.1, p.2) (fails_last (with_count _ c.if-kind-gt-LAST_KIND.false (search (rules, c.fits.ensures.0, c.if-not-fits.false)) c.in_ok-kind.ensures c.in_ok-count.ensures) c.in_err-deltas.ensures)

pub returns : goal.returns
returns g c = rw c.of_kind.ensures (is_read (with_count _ c.if-kind-gt-LAST_KIND.false (grind (arith, c.fits.ensures.0, c.if-not-fits.false))
    c.in_ok-kind.ensures c.in_ok-count.ensures) c.in_ok-deltas.ensures)
