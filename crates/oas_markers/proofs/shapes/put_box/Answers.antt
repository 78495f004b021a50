use Rattle.std.proofs.Common.{SFits, w64}
use Rattle.std.proofs.lemmas.Int.{to_z-of_z}
use Rattle.std.proofs.lemmas.Result.{err_from_is_err_and}
use Rattle.oas_num.proofs.PuttingLemmas.{first, begins, fails_at, ends, ◌▸◌}
use Rattle.oas_markers.proofs.shapes.put_box.Goals as goal

pub returns-in_err-put_all : goal.returns-in_err-put_all
returns-in_err-put_all g c =
    let p = err_from_is_err_and c.from_residual.result c.from_residual.ensures.1 in
    rw p.1 (fails_at _ (begins _ _) c.in_err-put_all.ensures)

pub returns-in_err-put_place : goal.returns-in_err-put_place
returns-in_err-put_place g c =
    let p = err_from_is_err_and c.from_residual-in_err-put_place.result c.from_residual-in_err-put_place.ensures.1 in
    let fx : SFits w64 c.args.x = c.ranges.x in
    let fy : SFits w64 c.args.y = c.ranges.y in
    rw p.1 (fails_at _ (first _ c.in_ok-put_all.ensures) (simp to_z-of_z at c.in_err-put_place.ensures))

pub returns-in_err-put : goal.returns-in_err-put
returns-in_err-put g c =
    let p = err_from_is_err_and c.from_residual-in_err-put.result c.from_residual-in_err-put.ensures.1 in
    let fx : SFits w64 c.args.x = c.ranges.x in
    let fy : SFits w64 c.args.y = c.ranges.y in
    rw p.1 (fails_at _ (first _ c.in_ok-put_all.ensures ▸ (simp to_z-of_z at c.in_ok-put_place.ensures)) c.in_err-put.ensures)

pub returns-in_err-put_far : goal.returns-in_err-put_far
returns-in_err-put_far g c =
    let p = err_from_is_err_and c.from_residual-in_err-put_far.result c.from_residual-in_err-put_far.ensures.1 in
    let fx : SFits w64 c.args.x = c.ranges.x in
    let fy : SFits w64 c.args.y = c.ranges.y in
    rw p.1 (fails_at _ (first _ c.in_ok-put_all.ensures ▸ (simp to_z-of_z at c.in_ok-put_place.ensures) ▸ c.in_ok-put.ensures) (simp to_z-of_z at c.in_err-put_far.ensures))

pub returns-in_err-put-2 : goal.returns-in_err-put-2
returns-in_err-put-2 g c =
    let p = err_from_is_err_and c.from_residual-in_err-put-2.result c.from_residual-in_err-put-2.ensures.1 in
    let fx : SFits w64 c.args.x = c.ranges.x in
    let fy : SFits w64 c.args.y = c.ranges.y in
    rw p.1 (fails_at _ (first _ c.in_ok-put_all.ensures ▸ (simp to_z-of_z at c.in_ok-put_place.ensures) ▸ c.in_ok-put.ensures ▸ (simp to_z-of_z at c.in_ok-put_far.ensures)) c.in_err-put-2.ensures)

pub returns-in_err-put_far-2 : goal.returns-in_err-put_far-2
returns-in_err-put_far-2 g c =
    let p = err_from_is_err_and c.from_residual-in_err-put_far-2.result c.from_residual-in_err-put_far-2.ensures.1 in
    let fx : SFits w64 c.args.x = c.ranges.x in
    let fy : SFits w64 c.args.y = c.ranges.y in
    rw p.1 (fails_at _ (first _ c.in_ok-put_all.ensures ▸ (simp to_z-of_z at c.in_ok-put_place.ensures) ▸ c.in_ok-put.ensures ▸
    (simp to_z-of_z at c.in_ok-put_far.ensures) ▸ c.in_ok-put-2.ensures) (simp to_z-of_z at c.in_err-put_far-2.ensures))

pub returns : goal.returns
returns g c =
    let fx : SFits w64 c.args.x = c.ranges.x in
    let fy : SFits w64 c.args.y = c.ranges.y in
    ends _ _ (first _ c.in_ok-put_all.ensures ▸ (simp to_z-of_z at c.in_ok-put_place.ensures) ▸ c.in_ok-put.ensures ▸
    (simp to_z-of_z at c.in_ok-put_far.ensures) ▸ c.in_ok-put-2.ensures ▸ (simp to_z-of_z at c.in_ok-put_far-2.ensures)) c.put-3.ensures
