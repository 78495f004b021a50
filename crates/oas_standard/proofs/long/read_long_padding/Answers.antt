use Rattle.std.proofs.lemmas.Result.{err_from_is_err_and}
use Rattle.oas_num.proofs.HalfwayLemmas.{◌▸◌, at_image, fails_at, fails_last, is_read}
use Rattle.oas_standard.specs.Long.{PrefixFree-long, long_padding}
use Rattle.oas_standard.proofs.long.read_long_padding.Goals as goal

pub returns-in_err-length : goal.returns-in_err-length
returns-in_err-length g c =
    let p = err_from_is_err_and c.from_residual.result c.from_residual.ensures.1 in
    rw (p.1, p.2) (fails_at (at_image {took = long_padding.took} _) c.in_err-length.ensures)

pub returns-in_err-padding : goal.returns-in_err-padding
returns-in_err-padding g c =
    let p = err_from_is_err_and c.from_residual-in_err-padding.result c.from_residual-in_err-padding.ensures.1 in
    rw (p.1, p.2) (fails_last (at_image {took = long_padding.took} _ ▸ (PrefixFree-long, c.in_ok-length.ensures)) c.in_err-padding.ensures)

pub returns : goal.returns
returns g c = is_read (at_image {took = long_padding.took} _ ▸ (PrefixFree-long, c.in_ok-length.ensures)) c.in_ok-padding.ensures
