use Rattle.std.proofs.Common.{SFits, w64, rules}
use Rattle.std.proofs.lemmas.Int.{to_z-of_z}
use Rattle.std.proofs.lemmas.Result.{err_from_is_err_and}
use Rattle.oas_num.proofs.PuttingLemmas.{first, begins, fails_at, ends, ◌▸◌}
use Rattle.oas_diff_text.proofs.fields.put_both.Goals as goal

pub returns-in_err-put_coordinate : goal.returns-in_err-put_coordinate
returns-in_err-put_coordinate g c =
    let p = err_from_is_err_and c.from_residual.result c.from_residual.ensures.1 in
    let fx : SFits w64 c.args.point.x = search rules in
    let fy : SFits w64 c.args.point.y = search rules in
    rw p.1 (fails_at _ (begins _ _) (simp to_z-of_z at c.in_err-put_coordinate.ensures))

pub returns-in_err-put : goal.returns-in_err-put
returns-in_err-put g c =
    let p = err_from_is_err_and c.from_residual-in_err-put.result c.from_residual-in_err-put.ensures.1 in
    let fx : SFits w64 c.args.point.x = search rules in
    let fy : SFits w64 c.args.point.y = search rules in
    rw p.1 (fails_at _ (first _ (simp to_z-of_z at c.in_ok-put_coordinate.ensures)) c.in_err-put.ensures)

pub returns : goal.returns
returns g c =
    let fx : SFits w64 c.args.point.x = search rules in
    let fy : SFits w64 c.args.point.y = search rules in
    ends _ _ (first _ (simp to_z-of_z at c.in_ok-put_coordinate.ensures) ▸ c.in_ok-put.ensures) (simp to_z-of_z at c.put_coordinate-2.ensures)
