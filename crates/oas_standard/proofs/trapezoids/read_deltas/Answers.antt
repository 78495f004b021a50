use Rattle.std.proofs.lemmas.Result.{err_from_is_err_and}
use Rattle.oas_record.proofs.FieldLemmas.{PrefixFree-signed_if}
use Rattle.oas_standard.specs.Trapezoids.{deltas}
use Rattle.oas_num.proofs.HalfwayLemmas.{◌▸◌, at_start, fails_at, fails_last, is_read, signed_took}
use Rattle.oas_standard.proofs.trapezoids.read_deltas.Goals as goal

pub returns-in_err-first : goal.returns-in_err-first
returns-in_err-first g c =
    let p = err_from_is_err_and c.from_residual.result c.from_residual.ensures.1 in
    rw (p.1, p.2) (fails_at (at_start {took = (deltas c.args.a c.args.b).took} _) (signed_took _ c.in_err-first.ensures))

pub returns-in_err-second : goal.returns-in_err-second
returns-in_err-second g c =
    let p = err_from_is_err_and c.from_residual-in_err-second.result c.from_residual-in_err-second.ensures.1 in
    rw (p.1, p.2) (fails_last (at_start {took = (deltas c.args.a c.args.b).took} _ ▸ (PrefixFree-signed_if _, c.in_ok-first.ensures)) (signed_took _ c.in_err-second.ensures))

pub returns : goal.returns
returns g c = is_read (at_start {took = (deltas c.args.a c.args.b).took} _ ▸ (PrefixFree-signed_if _, c.in_ok-first.ensures)) c.in_ok-second.ensures
