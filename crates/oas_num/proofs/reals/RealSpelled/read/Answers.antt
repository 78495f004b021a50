use Rattle.std.proofs.lemmas.Result.{err_from_is_err_and}
use Rattle.oas_num.specs.Laws.RealLaws.{PrefixFree-part}
use Rattle.oas_num.proofs.GrammarLemmas.{◌▸◌, is_read}
use Rattle.oas_num.proofs.RealLemmas.{with_kind, kind_fails, unknown, float, num_fails, den_fails}
use Rattle.oas_num.proofs.reals.RealSpelled.read.Goals as goal

pub returns-in_err-kind : goal.returns-in_err-kind
returns-in_err-kind g c =
    let p = err_from_is_err_and c.from_residual.result c.from_residual.ensures.1 in
    let f = kind_fails c.in_err-kind.ensures in
    rw (p.1, p.2) f

pub returns-then-kind-ge8 : goal.returns-then-kind-ge8
returns-then-kind-ge8 g c =
    let f = unknown c.if-kind-ge8.true c.in_ok-kind.ensures in
    f

pub returns-then-kind-ge6 : goal.returns-then-kind-ge6
returns-then-kind-ge6 g c =
    let f = float c.if-kind-ge6.true c.if-kind-ge8.false c.in_ok-kind.ensures in
    f

pub returns-in_err-num : goal.returns-in_err-num
returns-in_err-num g c =
    let p = err_from_is_err_and c.from_residual-in_err-num.result c.from_residual-in_err-num.ensures.1 in
    let f = num_fails c.if-kind-ge6.false c.in_ok-kind.ensures c.in_err-num.ensures in
    rw (p.1, p.2) f

pub returns-in_err-den : goal.returns-in_err-den
returns-in_err-den g c =
    let p = err_from_is_err_and c.from_residual-in_err-den.result c.from_residual-in_err-den.ensures.1 in
    let f = den_fails c.if-kind-ge6.false c.in_ok-kind.ensures c.in_ok-num.ensures c.in_err-den.ensures in
    rw (p.1, p.2) f

pub returns : goal.returns
returns g c =
    let read = is_read (with_kind _ _ _ c.if-kind-ge6.false c.in_ok-kind.ensures ▸ (PrefixFree-part _, c.in_ok-num.ensures)) c.in_ok-den.ensures in
    rw (c.part_or_one.ensures, c.part_or_one-2.ensures) read
