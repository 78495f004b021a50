use Rattle.std.proofs.Common.{rules}
use Rattle.std.proofs.lemmas.Result.{err_from_is_err_and}
use Rattle.oas_num.proofs.MidwayLemmas.{image_fails}
use Rattle.oas_num.proofs.integers.read_signed.Goals as goal

pub returns-in_err-coded : goal.returns-in_err-coded
returns-in_err-coded g c =
    let p = err_from_is_err_and c.from_residual.result c.from_residual.ensures.1 in
    rw (p.1, p.2) (image_fails _ c.in_err-coded.ensures)

pub returns-else-coded-eq0 : goal.returns-else-coded-eq0
returns-else-coded-eq0 g c = search rules
