use Rattle.std.proofs.lemmas.Result.{err_from_is_err_and}
use Rattle.oas_preparing.proofs.CheckLemmas.{checked, unchecked, not_kept}
use Rattle.oas_preparing.proofs.checks.prepared_check.Goals as goal

pub returns-in_err-layout : goal.returns-in_err-layout
returns-in_err-layout g c =
    let p = err_from_is_err_and c.from_residual.result c.from_residual.ensures.1 in
    rw (p.1, p.2) (unchecked _ c.in_err-layout.ensures.stops)

pub returns-in-Some : goal.returns-in-Some
returns-in-Some g c =
    let kept = rw c.in-Some.is at c.in_ok-layout.ensures.kept in
    let equal = rw c.deref.ensures.value at c.has_canonical_bytes.ensures.bytes in
    checked c.in_ok-layout.ensures.read _ kept _ equal

pub returns : goal.returns
returns g c = rw (c.unkept.ensures, c.at.ensures) (not_kept c.in_ok-layout.ensures.read)
