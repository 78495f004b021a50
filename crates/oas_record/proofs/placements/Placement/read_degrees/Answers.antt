use Rattle.std.proofs.lemmas.Result.{err_from_is_err_and}
use Rattle.oas_record.specs.Placements.{degrees_of, IsPlacementInfo, degree_parts}
use Rattle.oas_record.proofs.FieldLemmas.{PrefixFree-cell_if, PrefixFree-real_if}
use Rattle.oas_num.proofs.HalfwayLemmas.{◌▸◌, fails_at, fails_last, is_read}
use Rattle.oas_record.proofs.InfoLemmas.{info_took, info_read}
use Rattle.oas_record.proofs.placements.Placement.read_degrees.Goals as goal

pub returns-in_err-info : goal.returns-in_err-info
returns-in_err-info g c =
    let p = err_from_is_err_and c.from_residual.result c.from_residual.ensures.1 in
    rw (p.1, p.2) (info_took {of = degrees_of} {allowed = IsPlacementInfo} {fields = λ info. (degree_parts info).any} {took = λ info. (degree_parts info).took} c.in_err-info.ensures)

pub returns-in_err-cell : goal.returns-in_err-cell
returns-in_err-cell g c =
    let p = err_from_is_err_and c.from_residual-in_err-cell.result c.from_residual-in_err-cell.ensures.1 in
    rw (p.1, p.2) (fails_at (info_read {of = degrees_of} {allowed = IsPlacementInfo} {fields = λ info. (degree_parts info).any}
    {took = λ info. (degree_parts info).took} c.in_ok-info.ensures.spelled.small c.in_ok-info.ensures) c.in_err-cell.ensures)

pub returns-in_err-magnification : goal.returns-in_err-magnification
returns-in_err-magnification g c =
    let p = err_from_is_err_and c.from_residual-in_err-magnification.result c.from_residual-in_err-magnification.ensures.1 in
    rw (p.1, p.2) (fails_at (info_read {of = degrees_of} {allowed = IsPlacementInfo} {fields = λ info. (degree_parts info).any}
    {took = λ info. (degree_parts info).took} c.in_ok-info.ensures.spelled.small c.in_ok-info.ensures ▸
    (PrefixFree-cell_if _ _, c.in_ok-cell.ensures)) c.in_err-magnification.ensures)

pub returns-in_err-angle : goal.returns-in_err-angle
returns-in_err-angle g c =
    let p = err_from_is_err_and c.from_residual-in_err-angle.result c.from_residual-in_err-angle.ensures.1 in
    rw (p.1, p.2) (fails_at (info_read {of = degrees_of} {allowed = IsPlacementInfo} {fields = λ info. (degree_parts info).any}
    {took = λ info. (degree_parts info).took} c.in_ok-info.ensures.spelled.small c.in_ok-info.ensures ▸
    (PrefixFree-cell_if _ _, c.in_ok-cell.ensures) ▸ (PrefixFree-real_if _, c.in_ok-magnification.ensures)) c.in_err-angle.ensures)

pub returns-in_err-spot : goal.returns-in_err-spot
returns-in_err-spot g c =
    let p = err_from_is_err_and c.from_residual-in_err-spot.result c.from_residual-in_err-spot.ensures.1 in
    rw (p.1, p.2) (fails_last (info_read {of = degrees_of} {allowed = IsPlacementInfo} {fields = λ info. (degree_parts info).any}
    {took = λ info. (degree_parts info).took} c.in_ok-info.ensures.spelled.small c.in_ok-info.ensures ▸
    (PrefixFree-cell_if _ _, c.in_ok-cell.ensures) ▸ (PrefixFree-real_if _, c.in_ok-magnification.ensures) ▸
    (PrefixFree-real_if _, c.in_ok-angle.ensures)) c.in_err-spot.ensures)

pub returns : goal.returns
returns g c = is_read (info_read {of = degrees_of} {allowed = IsPlacementInfo} {fields = λ info. (degree_parts info).any}
    {took = λ info. (degree_parts info).took} c.in_ok-info.ensures.spelled.small c.in_ok-info.ensures ▸ (PrefixFree-cell_if _ _, c.in_ok-cell.ensures) ▸
    (PrefixFree-real_if _, c.in_ok-magnification.ensures) ▸ (PrefixFree-real_if _, c.in_ok-angle.ensures)) c.in_ok-spot.ensures
