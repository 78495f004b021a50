use Rattle.std.proofs.Common.{arith}
use Rattle.std.proofs.lemmas.Result.{err_from_is_err_and}
use Rattle.oas_num.proofs.GrammarLemmas.{is_read}
use Rattle.oas_num.proofs.TextLemmas.{name_text_fails, name_length_fails, with_name_length, read_name, empty}
use Rattle.oas_num.proofs.names.NameSpelled.read.Goals as goal

pub returns-in_err-length : goal.returns-in_err-length
returns-in_err-length g c =
    let p = err_from_is_err_and c.from_residual.result c.from_residual.ensures.1 in
    let f = name_length_fails c.in_err-length.ensures in
    rw (p.1, p.2) f

pub returns-then-length-eq0 : goal.returns-then-length-eq0
returns-then-length-eq0 g c =
    let f = empty c.if-length-eq0.true c.in_ok-length.ensures in
    f

pub returns-in_err-bytes : goal.returns-in_err-bytes
returns-in_err-bytes g c =
    let p = err_from_is_err_and c.from_residual-in_err-bytes.result c.from_residual-in_err-bytes.ensures.1 in
    let f = name_text_fails c.if-length-eq0.false c.in_ok-length.ensures c.in_err-bytes.ensures in
    rw (p.1, p.2) f

pub returns : goal.returns
returns g c =
    let read = is_read (with_name_length c.if-length-eq0.false c.in_ok-length.ensures) c.in_ok-bytes.ensures in
    read

pub invariant_of-result : goal.invariant_of-result
invariant_of-result g c = read_name c.if-length-eq0.false (omega (arith, c.in_ok-length.length)) c.in_ok-bytes.ensures
