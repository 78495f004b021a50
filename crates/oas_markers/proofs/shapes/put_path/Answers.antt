use Rattle.std.proofs.Common.{SFits, w64}
use Rattle.std.proofs.lemmas.Int.{to_z-of_z}
use Rattle.std.proofs.lemmas.Result.{err_from_is_err_and}
use Rattle.oas_num.proofs.PuttingLemmas.{first, begins, fails_at, ends, ◌▸◌}
use Rattle.oas_markers.proofs.shapes.put_path.Goals as goal

pub returns-in_err-put_all : goal.returns-in_err-put_all
returns-in_err-put_all g c =
    let p = err_from_is_err_and c.from_residual.result c.from_residual.ensures.1 in
    rw p.1 (fails_at _ (begins _ _) c.in_err-put_all.ensures)

pub returns-in_err-put_places : goal.returns-in_err-put_places
returns-in_err-put_places g c =
    let p = err_from_is_err_and c.from_residual-in_err-put_places.result c.from_residual-in_err-put_places.ensures.1 in
    rw p.1 (fails_at _ (first _ c.in_ok-put_all.ensures) c.in_err-put_places.ensures)

pub returns-in_err-put_all-2 : goal.returns-in_err-put_all-2
returns-in_err-put_all-2 g c =
    let p = err_from_is_err_and c.from_residual-in_err-put_all-2.result c.from_residual-in_err-put_all-2.ensures.1 in
    rw p.1 (fails_at _ (first _ c.in_ok-put_all.ensures ▸ c.in_ok-put_places.ensures) c.in_err-put_all-2.ensures)

pub returns-in_err-put_double : goal.returns-in_err-put_double
returns-in_err-put_double g c =
    let p = err_from_is_err_and c.from_residual-in_err-put_double.result c.from_residual-in_err-put_double.ensures.1 in
    rw p.1 (fails_at _ (first _ c.in_ok-put_all.ensures ▸ c.in_ok-put_places.ensures ▸ c.in_ok-put_all-2.ensures) c.in_err-put_double.ensures)

pub returns-in_err-put_all-3 : goal.returns-in_err-put_all-3
returns-in_err-put_all-3 g c =
    let p = err_from_is_err_and c.from_residual-in_err-put_all-3.result c.from_residual-in_err-put_all-3.ensures.1 in
    rw p.1 (fails_at _ (first _ c.in_ok-put_all.ensures ▸ c.in_ok-put_places.ensures ▸ c.in_ok-put_all-2.ensures ▸ c.in_ok-put_double.ensures) c.in_err-put_all-3.ensures)

pub returns-in_err-put_coordinate : goal.returns-in_err-put_coordinate
returns-in_err-put_coordinate g c =
    let p = err_from_is_err_and c.from_residual-in_err-put_coordinate.result c.from_residual-in_err-put_coordinate.ensures.1 in
    let ft : SFits w64 c.args.start = c.ranges.start in
    let fd : SFits w64 c.args.end = c.ranges.end in
    rw p.1 (fails_at _ (first _ c.in_ok-put_all.ensures ▸ c.in_ok-put_places.ensures ▸ c.in_ok-put_all-2.ensures ▸ c.in_ok-put_double.ensures ▸
    c.in_ok-put_all-3.ensures) (simp to_z-of_z at c.in_err-put_coordinate.ensures))

pub returns-in_err-put_all-4 : goal.returns-in_err-put_all-4
returns-in_err-put_all-4 g c =
    let p = err_from_is_err_and c.from_residual-in_err-put_all-4.result c.from_residual-in_err-put_all-4.ensures.1 in
    let ft : SFits w64 c.args.start = c.ranges.start in
    let fd : SFits w64 c.args.end = c.ranges.end in
    rw p.1 (fails_at _ (first _ c.in_ok-put_all.ensures ▸ c.in_ok-put_places.ensures ▸ c.in_ok-put_all-2.ensures ▸ c.in_ok-put_double.ensures ▸
    c.in_ok-put_all-3.ensures ▸ (simp to_z-of_z at c.in_ok-put_coordinate.ensures)) c.in_err-put_all-4.ensures)

pub returns-in_err-put_coordinate-2 : goal.returns-in_err-put_coordinate-2
returns-in_err-put_coordinate-2 g c =
    let p = err_from_is_err_and c.from_residual-in_err-put_coordinate-2.result c.from_residual-in_err-put_coordinate-2.ensures.1 in
    let ft : SFits w64 c.args.start = c.ranges.start in
    let fd : SFits w64 c.args.end = c.ranges.end in
    rw p.1 (fails_at _ (first _ c.in_ok-put_all.ensures ▸ c.in_ok-put_places.ensures ▸ c.in_ok-put_all-2.ensures ▸ c.in_ok-put_double.ensures ▸
    c.in_ok-put_all-3.ensures ▸ (simp to_z-of_z at c.in_ok-put_coordinate.ensures) ▸ c.in_ok-put_all-4.ensures) (simp to_z-of_z at c.in_err-put_coordinate-2.ensures))

pub returns : goal.returns
returns g c =
    let ft : SFits w64 c.args.start = c.ranges.start in
    let fd : SFits w64 c.args.end = c.ranges.end in
    ends _ _ (first _ c.in_ok-put_all.ensures ▸ c.in_ok-put_places.ensures ▸ c.in_ok-put_all-2.ensures ▸ c.in_ok-put_double.ensures ▸ c.in_ok-put_all-3.ensures
    ▸ (simp to_z-of_z at c.in_ok-put_coordinate.ensures) ▸ c.in_ok-put_all-4.ensures ▸ (simp to_z-of_z at c.in_ok-put_coordinate-2.ensures)) c.put_all-5.ensures
