use Rattle.std.proofs.lemmas.Result.{err_from_is_err_and}
use Rattle.oas_prepare.proofs.ResolvedLemmas.{later_refused}
use Rattle.oas_prepare.proofs.taking.take_resolved.Goals as goal

-- the record is refused after XYABSOLUTE, which isn't
pub returns-in_err-take-in-Absolute-2-clause-refused : goal.returns-in_err-take-in-Absolute-2-clause-refused
returns-in_err-take-in-Absolute-2-clause-refused g c = λ rs s.
    let p = err_from_is_err_and c.from_residual-in_err-take-in-Absolute-2.result c.from_residual-in_err-take-in-Absolute-2.ensures.1 in
    let t = c.in_ok-take-in-Absolute.ensures.taken rs s in
    rw (c.in-Absolute.is, p.1, p.2) (later_refused _ _ _ _ _ _ t.0 (rw c.in_ok-take-in-Absolute.ensures.limits at (c.in_err-take-in-Absolute-2.ensures.refused _ t.1)))
