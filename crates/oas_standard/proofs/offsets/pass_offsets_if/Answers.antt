use Rattle.std.proofs.lemmas.Result.{err_from_is_err_and}
use Rattle.oas_standard.proofs.offsets.pass_offsets_if.Goals as goal

pub returns-in_err-pass_offsets : goal.returns-in_err-pass_offsets
returns-in_err-pass_offsets g c =
    let p = err_from_is_err_and c.from_residual.result c.from_residual.ensures.1 in
    rw (p.1, p.2) (rw c.if-there.true c.in_err-pass_offsets.ensures)
