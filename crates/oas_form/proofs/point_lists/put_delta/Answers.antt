use Rattle.std.proofs.Common.{refl}
use Rattle.std.proofs.lemmas.Result.{err_from_is_err_and}
use Rattle.oas_num.specs.Writing.{shortest_gdelta}
use Rattle.oas_form.proofs.PointPutting.{part_coded}
use Rattle.oas_form.proofs.PuttingLemmas.{first, first_fails, last_fails, ends}
use Rattle.oas_form.proofs.point_lists.put_delta.Goals as goal

pub returns-in_err-across-clause-counts : goal.returns-in_err-across-clause-counts
unfolding shortest_gdelta
returns-in_err-across-clause-counts g c =
    let p = err_from_is_err_and c.from_residual.result c.from_residual.ensures.1 in
    let x = part_coded c.args.dx c.args.dx c.coded.result c.requires.dx refl c.coded.ensures in
    rw (p.1, ← x) (first_fails _ c.in_err-across.ensures.counts)

pub returns-in_err-up-clause-counts : goal.returns-in_err-up-clause-counts
unfolding shortest_gdelta
returns-in_err-up-clause-counts g c =
    let p = err_from_is_err_and c.from_residual-in_err-up.result c.from_residual-in_err-up.ensures.1 in
    let x = part_coded c.args.dx c.args.dx c.coded.result c.requires.dx refl c.coded.ensures in
    let y = part_coded c.args.dy c.args.dy c.coded-2.result c.requires.dy refl c.coded-2.ensures in
    rw (p.1, ← x, ← y) (last_fails (first _ c.in_ok-across.ensures.counts) c.in_err-up.ensures.counts)

pub returns-clause-counts : goal.returns-clause-counts
unfolding shortest_gdelta
returns-clause-counts g c =
    let x = part_coded c.args.dx c.args.dx c.coded.result c.requires.dx refl c.coded.ensures in
    let y = part_coded c.args.dy c.args.dy c.coded-2.result c.requires.dy refl c.coded-2.ensures in
    rw (← x, ← y) (ends (first _ c.in_ok-across.ensures.counts) c.in_ok-up.ensures.counts)
