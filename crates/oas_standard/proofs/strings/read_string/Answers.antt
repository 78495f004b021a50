use Rattle.std.proofs.lemmas.Result.{err_from_is_err_and}
use Rattle.oas_num.specs.Laws.TextLaws.{PrefixFree-padding}
use Rattle.oas_standard.specs.Strings.{StringTook}
use Rattle.oas_num.proofs.HalfwayLemmas.{◌▸◌, at_start, fails_at, fails_last, is_read, number_took}
use Rattle.oas_standard.proofs.strings.read_string.Goals as goal

pub returns-in_err-string : goal.returns-in_err-string
returns-in_err-string g c =
    let p = err_from_is_err_and c.from_residual.result c.from_residual.ensures.1 in
    rw (p.1, p.2) (fails_at (at_start {took = StringTook c.args.numbered} _) c.in_err-string.ensures)

pub returns-in_err-number : goal.returns-in_err-number
returns-in_err-number g c =
    let p = err_from_is_err_and c.from_residual-in_err-number.result c.from_residual-in_err-number.ensures.1 in
    rw (p.1, p.2) (fails_last (at_start {took = StringTook c.args.numbered} _ ▸ (PrefixFree-padding, c.in_ok-string.ensures)) (number_took _ c.in_err-number.ensures))

pub returns : goal.returns
returns g c = is_read (at_start {took = StringTook c.args.numbered} _ ▸ (PrefixFree-padding, c.in_ok-string.ensures)) c.in_ok-number.ensures
