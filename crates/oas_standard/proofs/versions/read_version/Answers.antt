use Rattle.std.proofs.Common.{arith}
use Rattle.std.proofs.lemmas.Result.{err_from_is_err_and}
use Rattle.oas_num.proofs.GrammarLemmas.{listed_none}
use Rattle.oas_record.proofs.HeadLemmas.{one, two, three}
use Rattle.oas_standard.proofs.VersionLemmas.{length_fails, pass_fails, passed, byte_fails, other, done}
use Rattle.oas_standard.proofs.versions.read_version.Goals as goal

pub returns-in_err-length : goal.returns-in_err-length
returns-in_err-length g c =
    let p = err_from_is_err_and c.from_residual.result c.from_residual.ensures.1 in
    rw (p.1, p.2) (length_fails c.in_err-length.ensures)

pub returns-in_err-pass_label : goal.returns-in_err-pass_label
returns-in_err-pass_label g c =
    let p = err_from_is_err_and c.from_residual-in_err-pass_label.result c.from_residual-in_err-pass_label.ensures.1 in
    rw (p.1, p.2) (pass_fails c.in_ok-length.ensures c.in_err-pass_label.ensures)

pub returns-then-length-ne3 : goal.returns-then-length-ne3
returns-then-length-ne3 g c = passed c.in_ok-length.ensures c.if-length-ne3.true c.in_ok-pass_label.ensures

pub returns-in_err-one : goal.returns-in_err-one
returns-in_err-one g c =
    let p = err_from_is_err_and c.from_residual-in_err-one.result c.from_residual-in_err-one.ensures.1 in
    rw (p.1, p.2) (byte_fails c.in_ok-length.ensures _ c.if-length-ne3.false (listed_none _ _) (omega arith) c.in_err-one.ensures)

pub returns-in_err-point : goal.returns-in_err-point
returns-in_err-point g c =
    let p = err_from_is_err_and c.from_residual-in_err-point.result c.from_residual-in_err-point.ensures.1 in
    rw (p.1, p.2) (byte_fails c.in_ok-length.ensures _ c.if-length-ne3.false (one c.in_ok-one.ensures) (omega arith) c.in_err-point.ensures)

pub returns-in_err-zero : goal.returns-in_err-zero
returns-in_err-zero g c =
    let p = err_from_is_err_and c.from_residual-in_err-zero.result c.from_residual-in_err-zero.ensures.1 in
    rw (p.1, p.2) (byte_fails c.in_ok-length.ensures _ c.if-length-ne3.false (two c.in_ok-one.ensures c.in_ok-point.ensures) (omega arith) c.in_err-zero.ensures)

pub returns-then-one-ne49 : goal.returns-then-one-ne49
returns-then-one-ne49 g c = other c.in_ok-length.ensures c.if-length-ne3.false c.then-one-ne49.either (three c.in_ok-one.ensures c.in_ok-point.ensures c.in_ok-zero.ensures)

pub returns : goal.returns
returns g c = done c.in_ok-length.ensures c.if-length-ne3.false (c.if-one-ne49.false, (c.if-point-ne46.false, c.if-zero-ne48.false))
    (three c.in_ok-one.ensures c.in_ok-point.ensures c.in_ok-zero.ensures)
