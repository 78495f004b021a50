use Rattle.std.proofs.lemmas.Result.{err_from_is_err_and}
use Rattle.oas_num.specs.Laws.IntegerLaws.{PrefixFree-IsUnsigned}
use Rattle.oas_num.specs.Laws.DeltaLaws.{HasSome-second}
use Rattle.oas_num.proofs.GrammarLemmas.{◌▹◌, is_read}
use Rattle.oas_num.proofs.DeltaLemmas.{starts_gdelta, first_number_fails, second_number_fails}
use Rattle.oas_num.proofs.deltas.GDeltaSpelled.read.Goals as goal

pub returns-in_err-first : goal.returns-in_err-first
returns-in_err-first g c =
    let p = err_from_is_err_and c.from_residual.result c.from_residual.ensures.1 in
    let f = first_number_fails c.in_err-first.ensures in
    rw (p.1, p.2) f

pub returns-in_err-second : goal.returns-in_err-second
returns-in_err-second g c =
    let p = err_from_is_err_and c.from_residual-in_err-second.result c.from_residual-in_err-second.ensures.1 in
    let f = second_number_fails c.in_ok-first.ensures c.in_err-second.ensures in
    rw (p.1, p.2) f

pub returns : goal.returns
returns g c =
    let read = is_read (starts_gdelta _ ▹ (PrefixFree-IsUnsigned, HasSome-second _, c.in_ok-first.ensures)) c.in_ok-second.ensures in
    rw c.from_numbers.ensures read
