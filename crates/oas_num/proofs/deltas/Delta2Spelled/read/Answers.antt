use Rattle.std.proofs.lemmas.Result.{err_from_is_err_and}
use Rattle.oas_num.specs.Deltas.{delta2_of}
use Rattle.oas_num.proofs.MidwayLemmas.{image_fails}
use Rattle.oas_num.proofs.GrammarLemmas.{is_read}
use Rattle.oas_num.proofs.DeltaLemmas.{starts_delta2}
use Rattle.oas_num.proofs.deltas.Delta2Spelled.read.Goals as goal

pub returns-in_err-coded : goal.returns-in_err-coded
returns-in_err-coded g c =
    let p = err_from_is_err_and c.from_residual.result c.from_residual.ensures.1 in
    let f = image_fails delta2_of c.in_err-coded.ensures in
    rw (p.1, p.2) f

pub returns : goal.returns
returns g c =
    let read = is_read (starts_delta2 _) c.in_ok-coded.ensures in
    rw c.from_number.ensures read
