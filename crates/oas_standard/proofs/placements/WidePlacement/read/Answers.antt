use Rattle.std.proofs.lemmas.Result.{err_from_is_err_and}
use Rattle.oas_num.specs.Laws.GrammarLaws.{PrefixFree-byte}
use Rattle.oas_num.proofs.HalfwayLemmas.{◌▸◌, at_image, fails_at, fails_last, is_read}
use Rattle.oas_record.proofs.FieldLemmas.{PrefixFree-cell_if}
use Rattle.oas_record.specs.Trees.{there}
use Rattle.oas_standard.specs.Placements.{PlacementTook}
use Rattle.oas_standard.specs.Reals.{wide_real}
use Rattle.oas_standard.proofs.placements.WidePlacement.read.Goals as goal

pub returns-in_err-info : goal.returns-in_err-info
returns-in_err-info g c =
    let p = err_from_is_err_and c.from_residual.result c.from_residual.ensures.1 in
    rw (p.1, p.2) (fails_at (at_image {took = PlacementTook} _) c.in_err-info.ensures)

pub returns-in_err-cell : goal.returns-in_err-cell
returns-in_err-cell g c =
    let p = err_from_is_err_and c.from_residual-in_err-cell.result c.from_residual-in_err-cell.ensures.1 in
    rw (p.1, p.2) (fails_at (at_image {took = PlacementTook} _ ▸ (PrefixFree-byte, c.in_ok-info.ensures)) c.in_err-cell.ensures)

pub returns-in_err-magnification : goal.returns-in_err-magnification
returns-in_err-magnification g c =
    let p = err_from_is_err_and c.from_residual-in_err-magnification.result c.from_residual-in_err-magnification.ensures.1 in
    rw (p.1, p.2) (fails_at (at_image {took = PlacementTook} _ ▸ (PrefixFree-byte, c.in_ok-info.ensures) ▸ (PrefixFree-cell_if _ _, c.in_ok-cell.ensures)) c.in_err-magnification.ensures)

pub returns-in_err-angle : goal.returns-in_err-angle
returns-in_err-angle g c =
    let p = err_from_is_err_and c.from_residual-in_err-angle.result c.from_residual-in_err-angle.ensures.1 in
    rw (p.1, p.2) (fails_at (at_image {took = PlacementTook} _ ▸ (PrefixFree-byte, c.in_ok-info.ensures) ▸ (PrefixFree-cell_if _ _, c.in_ok-cell.ensures) ▸
    ((there _ wide_real).found.one, c.in_ok-magnification.ensures)) c.in_err-angle.ensures)

pub returns-in_err-spot : goal.returns-in_err-spot
returns-in_err-spot g c =
    let p = err_from_is_err_and c.from_residual-in_err-spot.result c.from_residual-in_err-spot.ensures.1 in
    rw (p.1, p.2) (fails_last (at_image {took = PlacementTook} _ ▸ (PrefixFree-byte, c.in_ok-info.ensures) ▸ (PrefixFree-cell_if _ _, c.in_ok-cell.ensures) ▸
    ((there _ wide_real).found.one, c.in_ok-magnification.ensures) ▸ ((there _ wide_real).found.one, c.in_ok-angle.ensures)) c.in_err-spot.ensures)

pub returns : goal.returns
returns g c = is_read (at_image {took = PlacementTook} _ ▸ (PrefixFree-byte, c.in_ok-info.ensures) ▸ (PrefixFree-cell_if _ _, c.in_ok-cell.ensures) ▸
    ((there _ wide_real).found.one, c.in_ok-magnification.ensures) ▸ ((there _ wide_real).found.one, c.in_ok-angle.ensures)) c.in_ok-spot.ensures
