use Rattle.std.proofs.lemmas.Result.{err_from_is_err_and}
use Rattle.oas_num.specs.Style.{Any}
use Rattle.oas_num.specs.Laws.GrammarLaws.{PrefixFree-byte}
use Rattle.oas_record.proofs.ElementLemmas.{PrefixFree-number_if}
use Rattle.oas_record.proofs.FieldLemmas.{PrefixFree-layers}
use Rattle.oas_standard.specs.Trapezoids.{deltas, TrapezoidTook}
use Rattle.oas_num.proofs.HalfwayLemmas.{◌▸◌, at_image, fails_at, fails_last, is_read, number_took}
use Rattle.oas_standard.proofs.trapezoids.Trapezoid.read.Goals as goal

pub returns-in_err-info : goal.returns-in_err-info
returns-in_err-info g c =
    let p = err_from_is_err_and c.from_residual.result c.from_residual.ensures.1 in
    rw (p.1, p.2) (fails_at (at_image {took = TrapezoidTook c.args.has_a c.args.has_b} _) c.in_err-info.ensures)

pub returns-in_err-layers : goal.returns-in_err-layers
returns-in_err-layers g c =
    let p = err_from_is_err_and c.from_residual-in_err-layers.result c.from_residual-in_err-layers.ensures.1 in
    rw (p.1, p.2) (fails_at (at_image {took = TrapezoidTook c.args.has_a c.args.has_b} _ ▸ (PrefixFree-byte, c.in_ok-info.ensures)) c.in_err-layers.ensures)

pub returns-in_err-width : goal.returns-in_err-width
returns-in_err-width g c =
    let p = err_from_is_err_and c.from_residual-in_err-width.result c.from_residual-in_err-width.ensures.1 in
    rw (p.1, p.2) (fails_at (at_image {took = TrapezoidTook c.args.has_a c.args.has_b} _ ▸ (PrefixFree-byte, c.in_ok-info.ensures) ▸
    (PrefixFree-layers Any _, c.in_ok-layers.ensures)) (number_took _ c.in_err-width.ensures))

pub returns-in_err-height : goal.returns-in_err-height
returns-in_err-height g c =
    let p = err_from_is_err_and c.from_residual-in_err-height.result c.from_residual-in_err-height.ensures.1 in
    rw (p.1, p.2) (fails_at (at_image {took = TrapezoidTook c.args.has_a c.args.has_b} _ ▸ (PrefixFree-byte, c.in_ok-info.ensures) ▸
    (PrefixFree-layers Any _, c.in_ok-layers.ensures) ▸ (PrefixFree-number_if _, c.in_ok-width.ensures)) (number_took _ c.in_err-height.ensures))

pub returns-in_err-deltas : goal.returns-in_err-deltas
returns-in_err-deltas g c =
    let p = err_from_is_err_and c.from_residual-in_err-deltas.result c.from_residual-in_err-deltas.ensures.1 in
    rw (p.1, p.2) (fails_at (at_image {took = TrapezoidTook c.args.has_a c.args.has_b} _ ▸ (PrefixFree-byte, c.in_ok-info.ensures) ▸
    (PrefixFree-layers Any _, c.in_ok-layers.ensures) ▸ (PrefixFree-number_if _, c.in_ok-width.ensures) ▸ (PrefixFree-number_if _, c.in_ok-height.ensures)) c.in_err-deltas.ensures)

pub returns-in_err-spot : goal.returns-in_err-spot
returns-in_err-spot g c =
    let p = err_from_is_err_and c.from_residual-in_err-spot.result c.from_residual-in_err-spot.ensures.1 in
    rw (p.1, p.2) (fails_last (at_image {took = TrapezoidTook c.args.has_a c.args.has_b} _ ▸ (PrefixFree-byte, c.in_ok-info.ensures) ▸
    (PrefixFree-layers Any _, c.in_ok-layers.ensures) ▸ (PrefixFree-number_if _, c.in_ok-width.ensures) ▸ (PrefixFree-number_if _, c.in_ok-height.ensures) ▸
    ((deltas c.args.has_a c.args.has_b).found.one, c.in_ok-deltas.ensures)) c.in_err-spot.ensures)

pub returns : goal.returns
returns g c = is_read (at_image {took = TrapezoidTook c.args.has_a c.args.has_b} _ ▸ (PrefixFree-byte, c.in_ok-info.ensures) ▸
    (PrefixFree-layers Any _, c.in_ok-layers.ensures) ▸ (PrefixFree-number_if _, c.in_ok-width.ensures) ▸ (PrefixFree-number_if _, c.in_ok-height.ensures) ▸
    ((deltas c.args.has_a c.args.has_b).found.one, c.in_ok-deltas.ensures)) c.in_ok-spot.ensures
