use Rattle.std.proofs.Common.{rules}
use Rattle.std.proofs.lemmas.Result.{err_from_is_err_and}
use Rattle.oas_num.specs.Integers.{IsSigned}
use Rattle.oas_num.proofs.GrammarLemmas.{wrapped_fails}
use Rattle.oas_num.specs.declared.deltas.Delta1.{Delta1}
use Rattle.oas_num.proofs.deltas.Delta1Spelled.read.Goals as goal

pub returns-in_err-read_signed : goal.returns-in_err-read_signed
returns-in_err-read_signed g c =
    let p = err_from_is_err_and c.from_residual.result c.from_residual.ensures.1 in
    let f = wrapped_fails {A = IsSigned} (λ (d : Delta1). d.0) c.in_err-read_signed.ensures in
    rw (p.1, p.2) f

pub returns : goal.returns
returns g c = search rules
