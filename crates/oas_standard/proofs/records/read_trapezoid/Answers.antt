use Rattle.std.proofs.Common.{arith}
use Rattle.std.proofs.lemmas.Result.{err_from_is_err_and}
use Rattle.oas_num.proofs.MidwayLemmas.{image_fails}
use Rattle.oas_standard.specs.WideRecords.{a_named_trapezoid}
use Rattle.oas_standard.proofs.ForeignLemmas.{three_ids, trapezoid_fails, trapezoid_read}
use Rattle.oas_standard.proofs.records.read_trapezoid.Goals as goal

pub returns-in_err-named : goal.returns-in_err-named
returns-in_err-named g c =
    let p = err_from_is_err_and c.from_residual.result c.from_residual.ensures.1 in
    λ in_end. rw (p.1, p.2) (rw c.if-id-eq26.true (image_fails a_named_trapezoid c.in_err-named.ensures))

pub returns-in_err-trapezoid : goal.returns-in_err-trapezoid
returns-in_err-trapezoid g c =
    let p = err_from_is_err_and c.from_residual-in_err-trapezoid.result c.from_residual-in_err-trapezoid.ensures.1 in
    λ in_end. rw (p.1, p.2) (trapezoid_fails in_end _ (three_ids _ 23 c.requires.above (omega (arith, c.requires.below, c.if-id-eq26.false))) c.in_err-trapezoid.ensures)

pub returns : goal.returns
returns g c = λ in_end. trapezoid_read in_end _ _ (three_ids _ 23 c.requires.above (omega (arith, c.requires.below, c.if-id-eq26.false))) c.in_ok-trapezoid.ensures
