use Rattle.std.proofs.lemmas.Result.{err_from_is_err_and}
use Rattle.oas_num.specs.Laws.GrammarLaws.{PrefixFree-byte}
use Rattle.oas_standard.specs.Little.{FourTook}
use Rattle.oas_num.proofs.HalfwayLemmas.{◌▸◌, at_image, fails_at, fails_last, is_read}
use Rattle.oas_standard.proofs.little.read_four.Goals as goal

pub returns-in_err-first : goal.returns-in_err-first
returns-in_err-first g c =
    let p = err_from_is_err_and c.from_residual.result c.from_residual.ensures.1 in
    rw (p.1, p.2) (fails_at (at_image {took = FourTook} _) c.in_err-first.ensures)

pub returns-in_err-second : goal.returns-in_err-second
returns-in_err-second g c =
    let p = err_from_is_err_and c.from_residual-in_err-second.result c.from_residual-in_err-second.ensures.1 in
    rw (p.1, p.2) (fails_at (at_image {took = FourTook} _ ▸ (PrefixFree-byte, c.in_ok-first.ensures)) c.in_err-second.ensures)

pub returns-in_err-third : goal.returns-in_err-third
returns-in_err-third g c =
    let p = err_from_is_err_and c.from_residual-in_err-third.result c.from_residual-in_err-third.ensures.1 in
    rw (p.1, p.2) (fails_at (at_image {took = FourTook} _ ▸ (PrefixFree-byte, c.in_ok-first.ensures) ▸ (PrefixFree-byte, c.in_ok-second.ensures)) c.in_err-third.ensures)

pub returns-in_err-fourth : goal.returns-in_err-fourth
returns-in_err-fourth g c =
    let p = err_from_is_err_and c.from_residual-in_err-fourth.result c.from_residual-in_err-fourth.ensures.1 in
    rw (p.1, p.2) (fails_last (at_image {took = FourTook} _ ▸ (PrefixFree-byte, c.in_ok-first.ensures) ▸ (PrefixFree-byte, c.in_ok-second.ensures) ▸
    (PrefixFree-byte, c.in_ok-third.ensures)) c.in_err-fourth.ensures)

pub returns : goal.returns
returns g c = rw (c.from.ensures, c.from-2.ensures, c.from-3.ensures, c.from-4.ensures)
    (is_read (at_image {took = FourTook} _ ▸ (PrefixFree-byte, c.in_ok-first.ensures) ▸ (PrefixFree-byte, c.in_ok-second.ensures) ▸
    (PrefixFree-byte, c.in_ok-third.ensures)) c.in_ok-fourth.ensures)
