use Rattle.std.proofs.lemmas.Result.{err_from_is_err_and}
use Rattle.oas_standard.specs.Blocks.{BlockHeadTook}
use Rattle.oas_standard.specs.Long.{PrefixFree-long}
use Rattle.oas_num.proofs.HalfwayLemmas.{◌▸◌, at_image, fails_at, fails_last, is_read}
use Rattle.oas_standard.proofs.blocks.BlockHead.read.Goals as goal

pub returns-in_err-kind : goal.returns-in_err-kind
returns-in_err-kind g c =
    let p = err_from_is_err_and c.from_residual.result c.from_residual.ensures.1 in
    rw (p.1, p.2) (fails_at (at_image {took = BlockHeadTook} _) c.in_err-kind.ensures)

pub returns-in_err-inflated : goal.returns-in_err-inflated
returns-in_err-inflated g c =
    let p = err_from_is_err_and c.from_residual-in_err-inflated.result c.from_residual-in_err-inflated.ensures.1 in
    rw (p.1, p.2) (fails_at (at_image {took = BlockHeadTook} _ ▸ (PrefixFree-long, c.in_ok-kind.ensures)) c.in_err-inflated.ensures)

pub returns-in_err-deflated : goal.returns-in_err-deflated
returns-in_err-deflated g c =
    let p = err_from_is_err_and c.from_residual-in_err-deflated.result c.from_residual-in_err-deflated.ensures.1 in
    rw (p.1, p.2) (fails_last (at_image {took = BlockHeadTook} _ ▸ (PrefixFree-long, c.in_ok-kind.ensures) ▸ (PrefixFree-long, c.in_ok-inflated.ensures)) c.in_err-deflated.ensures)

pub returns : goal.returns
returns g c = (is_read (at_image {took = BlockHeadTook} _ ▸ (PrefixFree-long, c.in_ok-kind.ensures) ▸ (PrefixFree-long, c.in_ok-inflated.ensures)) c.in_ok-deflated.ensures)
