use Rattle.std.proofs.lemmas.Result.{err_from_is_err_and}
use Rattle.oas_record.specs.Fields.{SpotTook}
use Rattle.oas_record.proofs.FieldLemmas.{PrefixFree-signed_if}
use Rattle.oas_num.proofs.HalfwayLemmas.{◌▸◌, at_image, fails_at, fails_last, is_read, signed_took}
use Rattle.oas_record.proofs.spots.read_spot.Goals as goal

pub returns-in_err-x : goal.returns-in_err-x
returns-in_err-x g c =
    let p = err_from_is_err_and c.from_residual.result c.from_residual.ensures.1 in
    rw (p.1, p.2) (fails_at (at_image _) (signed_took _ c.in_err-x.ensures))

pub returns-in_err-y : goal.returns-in_err-y
returns-in_err-y g c =
    let p = err_from_is_err_and c.from_residual-in_err-y.result c.from_residual-in_err-y.ensures.1 in
    rw (p.1, p.2) (fails_at (at_image _ ▸ (PrefixFree-signed_if _, c.in_ok-x.ensures)) (signed_took _ c.in_err-y.ensures))

pub returns-in_err-repetition : goal.returns-in_err-repetition
returns-in_err-repetition g c =
    let p = err_from_is_err_and c.from_residual-in_err-repetition.result c.from_residual-in_err-repetition.ensures.1 in
    rw (p.1, p.2) (fails_last (at_image _ ▸ (PrefixFree-signed_if _, c.in_ok-x.ensures) ▸ (PrefixFree-signed_if _, c.in_ok-y.ensures)) c.in_err-repetition.ensures)

pub returns : goal.returns
returns g c = is_read (at_image {took = SpotTook c.args.x c.args.y c.args.repetition} _ ▸ (PrefixFree-signed_if _, c.in_ok-x.ensures) ▸
    (PrefixFree-signed_if _, c.in_ok-y.ensures)) c.in_ok-repetition.ensures
