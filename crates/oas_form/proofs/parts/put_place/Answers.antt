use Rattle.std.proofs.Common.{w64}
use Rattle.std.proofs.lemmas.Int.{to_z-of_z}
use Rattle.std.proofs.lemmas.Result.{err_from_is_err_and}
use Rattle.oas_form.proofs.PuttingLemmas.{first, last_fails, ends}
use Rattle.oas_form.proofs.parts.put_place.Goals as goal

pub returns-in_err-up-clause-counts : goal.returns-in_err-up-clause-counts
returns-in_err-up-clause-counts g c =
    let p = err_from_is_err_and c.from_residual-in_err-up.result c.from_residual-in_err-up.ensures.1 in
    rw p.1 (last_fails (first _ (simp (to_z-of_z w64 c.args.x c.ranges.x) at c.in_ok-across.ensures.counts)) (simp (to_z-of_z w64 c.args.y c.ranges.y) at c.in_err-up.ensures.counts))

pub returns-clause-counts : goal.returns-clause-counts
returns-clause-counts g c = ends (first _ (simp (to_z-of_z w64 c.args.x c.ranges.x) at c.in_ok-across.ensures.counts)) (simp (to_z-of_z w64 c.args.y c.ranges.y) at c.in_ok-up.ensures.counts)
