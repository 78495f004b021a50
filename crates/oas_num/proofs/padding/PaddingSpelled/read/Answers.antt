use Rattle.std.proofs.lemmas.Result.{err_from_is_err_and}
use Rattle.oas_num.proofs.TextLemmas.{padding_length_fails, padding_done}
use Rattle.oas_num.proofs.padding.PaddingSpelled.read.Goals as goal

pub returns-in_err-length : goal.returns-in_err-length
returns-in_err-length g c =
    let p = err_from_is_err_and c.from_residual.result c.from_residual.ensures.1 in
    let f = padding_length_fails c.in_err-length.ensures in
    rw (p.1, p.2) f

pub returns : goal.returns
returns g c =
    let read = padding_done _ _ _ _ _ c.in_ok-length.ensures c.pass_over.ensures in
    read
