use Rattle.std.proofs.lemmas.Result.{err_from_is_err_and}
use Rattle.oas_standard.specs.Strings.{AttributedTook}
use Rattle.oas_num.proofs.HalfwayLemmas.{◌▸◌, at_start, fails_at, fails_last, is_read}
use Rattle.oas_standard.specs.Long.{PrefixFree-long}
use Rattle.oas_standard.proofs.strings.read_attributed.Goals as goal

pub returns-in_err-attribute : goal.returns-in_err-attribute
returns-in_err-attribute g c =
    let p = err_from_is_err_and c.from_residual.result c.from_residual.ensures.1 in
    rw (p.1, p.2) (fails_at (at_start {took = AttributedTook c.args.numbered} _) c.in_err-attribute.ensures)

pub returns-in_err-string : goal.returns-in_err-string
returns-in_err-string g c =
    let p = err_from_is_err_and c.from_residual-in_err-string.result c.from_residual-in_err-string.ensures.1 in
    rw (p.1, p.2) (fails_last (at_start {took = AttributedTook c.args.numbered} _ ▸ (PrefixFree-long, c.in_ok-attribute.ensures)) c.in_err-string.ensures)

pub returns : goal.returns
returns g c = is_read (at_start {took = AttributedTook c.args.numbered} _ ▸ (PrefixFree-long, c.in_ok-attribute.ensures)) c.in_ok-string.ensures
