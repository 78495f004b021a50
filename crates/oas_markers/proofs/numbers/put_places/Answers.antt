use Rattle.std.proofs.Common.{SFits, rules, w64, ap}
use Rattle.std.proofs.lemmas.Int.{to_z-of_z}
use Rattle.std.proofs.lemmas.Result.{err_from_is_err_and}
use Rattle.oas_num.proofs.PuttingLemmas.{begins, fails_at, ends, ◌▸◌}
use Rattle.oas_markers.specs.Numbers.{places}
use Rattle.oas_difference.proofs.EntryLemmas.{left_is}
use Rattle.oas_markers.proofs.numbers.put_places.Goals as goal

pub returns-in_err-put_place : goal.returns-in_err-put_place
returns-in_err-put_place g c =
    let p = err_from_is_err_and c.from_residual.result c.from_residual.ensures.1 in
    let fx : SFits w64 c.in-Some.first.x = search rules in
    let fy : SFits w64 c.in-Some.first.y = search rules in
    rw p.1 (fails_at _ (left_is (begins _ _) (ap (places c.args.unit) c.in-Some.ensures.steps)) (simp to_z-of_z at c.in_err-put_place.ensures))

pub returns : goal.returns
returns g c =
    let fx : SFits w64 c.in-Some.first.x = search rules in
    let fy : SFits w64 c.in-Some.first.y = search rules in
    ends _ _ (left_is (begins _ _) (ap (places c.args.unit) c.in-Some.ensures.steps) ▸ (simp to_z-of_z at c.in_ok-put_place.ensures)) c.put_rest.ensures
