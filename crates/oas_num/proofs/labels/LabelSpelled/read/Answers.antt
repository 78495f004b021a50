use Rattle.std.proofs.Common.{arith}
use Rattle.std.proofs.lemmas.Result.{err_from_is_err_and}
use Rattle.oas_num.proofs.GrammarLemmas.{is_read}
use Rattle.oas_num.proofs.TextLemmas.{label_text_fails, label_length_fails, with_label_length, read_label}
use Rattle.oas_num.proofs.labels.LabelSpelled.read.Goals as goal

pub returns-in_err-length : goal.returns-in_err-length
returns-in_err-length g c =
    let p = err_from_is_err_and c.from_residual.result c.from_residual.ensures.1 in
    let f = label_length_fails c.in_err-length.ensures in
    rw (p.1, p.2) f

pub returns-in_err-bytes : goal.returns-in_err-bytes
returns-in_err-bytes g c =
    let p = err_from_is_err_and c.from_residual-in_err-bytes.result c.from_residual-in_err-bytes.ensures.1 in
    let f = label_text_fails c.in_ok-length.ensures c.in_err-bytes.ensures in
    rw (p.1, p.2) f

pub returns : goal.returns
returns g c =
    let read = is_read (with_label_length c.in_ok-length.ensures) c.in_ok-bytes.ensures in
    read

pub invariant_of-result : goal.invariant_of-result
invariant_of-result g c = read_label (omega (arith, c.in_ok-length.length)) c.in_ok-bytes.ensures
