use Rattle.std.proofs.Common.{SFits, w64}
use Rattle.std.proofs.lemmas.Int.{to_z-of_z}
use Rattle.std.proofs.lemmas.Result.{err_from_is_err_and}
use Rattle.oas_num.proofs.PuttingLemmas.{first, begins, fails_at, ends, ◌▸◌}
use Rattle.oas_markers.proofs.shapes.put_circle.Goals as goal

pub returns-in_err-put_all : goal.returns-in_err-put_all
returns-in_err-put_all g c =
    let p = err_from_is_err_and c.from_residual.result c.from_residual.ensures.1 in
    rw p.1 (fails_at _ (begins _ _) c.in_err-put_all.ensures)

pub returns-in_err-put_place : goal.returns-in_err-put_place
returns-in_err-put_place g c =
    let p = err_from_is_err_and c.from_residual-in_err-put_place.result c.from_residual-in_err-put_place.ensures.1 in
    let fx : SFits w64 c.args.x = c.ranges.x in
    let fy : SFits w64 c.args.y = c.ranges.y in
    rw p.1 (fails_at _ (first _ c.in_ok-put_all.ensures) (simp to_z-of_z at c.in_err-put_place.ensures))

pub returns-in_err-put_all-2 : goal.returns-in_err-put_all-2
returns-in_err-put_all-2 g c =
    let p = err_from_is_err_and c.from_residual-in_err-put_all-2.result c.from_residual-in_err-put_all-2.ensures.1 in
    let fx : SFits w64 c.args.x = c.ranges.x in
    let fy : SFits w64 c.args.y = c.ranges.y in
    rw p.1 (fails_at _ (first _ c.in_ok-put_all.ensures ▸ (simp to_z-of_z at c.in_ok-put_place.ensures)) c.in_err-put_all-2.ensures)

pub returns-in_err-put_double : goal.returns-in_err-put_double
returns-in_err-put_double g c =
    let p = err_from_is_err_and c.from_residual-in_err-put_double.result c.from_residual-in_err-put_double.ensures.1 in
    let fx : SFits w64 c.args.x = c.ranges.x in
    let fy : SFits w64 c.args.y = c.ranges.y in
    rw p.1 (fails_at _ (first _ c.in_ok-put_all.ensures ▸ (simp to_z-of_z at c.in_ok-put_place.ensures) ▸ c.in_ok-put_all-2.ensures) c.in_err-put_double.ensures)

pub returns-in_err-put_all-3 : goal.returns-in_err-put_all-3
returns-in_err-put_all-3 g c =
    let p = err_from_is_err_and c.from_residual-in_err-put_all-3.result c.from_residual-in_err-put_all-3.ensures.1 in
    let fx : SFits w64 c.args.x = c.ranges.x in
    let fy : SFits w64 c.args.y = c.ranges.y in
    rw p.1 (fails_at _ (first _ c.in_ok-put_all.ensures ▸ (simp to_z-of_z at c.in_ok-put_place.ensures) ▸ c.in_ok-put_all-2.ensures ▸ c.in_ok-put_double.ensures) c.in_err-put_all-3.ensures)

pub returns-in_err-put_steps : goal.returns-in_err-put_steps
returns-in_err-put_steps g c =
    let p = err_from_is_err_and c.from_residual-in_err-put_steps.result c.from_residual-in_err-put_steps.ensures.1 in
    let fx : SFits w64 c.args.x = c.ranges.x in
    let fy : SFits w64 c.args.y = c.ranges.y in
    rw p.1 (fails_at _ (first _ c.in_ok-put_all.ensures ▸ (simp to_z-of_z at c.in_ok-put_place.ensures) ▸ c.in_ok-put_all-2.ensures ▸ c.in_ok-put_double.ensures
    ▸ c.in_ok-put_all-3.ensures) c.in_err-put_steps.ensures)

pub returns-in_err-put_all-4 : goal.returns-in_err-put_all-4
returns-in_err-put_all-4 g c =
    let p = err_from_is_err_and c.from_residual-in_err-put_all-4.result c.from_residual-in_err-put_all-4.ensures.1 in
    let fx : SFits w64 c.args.x = c.ranges.x in
    let fy : SFits w64 c.args.y = c.ranges.y in
    rw p.1 (fails_at _ (first _ c.in_ok-put_all.ensures ▸ (simp to_z-of_z at c.in_ok-put_place.ensures) ▸ c.in_ok-put_all-2.ensures ▸ c.in_ok-put_double.ensures
    ▸ c.in_ok-put_all-3.ensures ▸ c.in_ok-put_steps.ensures) c.in_err-put_all-4.ensures)

pub returns-in_err-put_steps-2 : goal.returns-in_err-put_steps-2
returns-in_err-put_steps-2 g c =
    let p = err_from_is_err_and c.from_residual-in_err-put_steps-2.result c.from_residual-in_err-put_steps-2.ensures.1 in
    let fx : SFits w64 c.args.x = c.ranges.x in
    let fy : SFits w64 c.args.y = c.ranges.y in
    rw p.1 (fails_at _ (first _ c.in_ok-put_all.ensures ▸ (simp to_z-of_z at c.in_ok-put_place.ensures) ▸ c.in_ok-put_all-2.ensures ▸ c.in_ok-put_double.ensures
    ▸ c.in_ok-put_all-3.ensures ▸ c.in_ok-put_steps.ensures ▸ c.in_ok-put_all-4.ensures) c.in_err-put_steps-2.ensures)

pub returns : goal.returns
returns g c =
    let fx : SFits w64 c.args.x = c.ranges.x in
    let fy : SFits w64 c.args.y = c.ranges.y in
    ends _ _ (first _ c.in_ok-put_all.ensures ▸ (simp to_z-of_z at c.in_ok-put_place.ensures) ▸ c.in_ok-put_all-2.ensures ▸ c.in_ok-put_double.ensures ▸
    c.in_ok-put_all-3.ensures ▸ c.in_ok-put_steps.ensures ▸ c.in_ok-put_all-4.ensures ▸ c.in_ok-put_steps-2.ensures) c.put_all-5.ensures
