use Rattle.std.proofs.Common.{◌≡◌, ◌<◌, true, length, sym, subst, ap, arith, w64}
use Rattle.std.specs.Prelude.{ℤ}
use Rattle.std.proofs.lemmas.Int.{to_z-of_z}
use Rattle.std.proofs.lemmas.Bool.{and_parts}
use Rattle.std.proofs.lemmas.Result.{err_from_is_err_and}
use Rattle.oas_elements.specs.Grid.{is_coordinate}
use Rattle.oas_listing.proofs.PointPutting.{x_fits, y_fits}
use Rattle.oas_listing.proofs.PuttingLemmas.{first, first_fails, last_fails, ends}
use Rattle.oas_writing.proofs.PointLemmas.{firsts}
use Rattle.oas_writing.proofs.points.put_points.Goals as goal

pub returns-in_default-clause-counts : goal.returns-in_default-clause-counts
returns-in_default-clause-counts g c =
    let no : 0 < 0 = omega (arith, c.requires.some, ap length c.in_default.ensures) in
    absurd (omega (arith, no))

pub put_list-requires : goal.put_list-requires
put_list-requires g c =
    let begun = c.in-Some.ensures in
    let f = firsts c.args.points begun.0 c.in-Some.first begun.1 c.requires.inside in
    (c.in-Some.first, begun.0, begun.2, omega (arith, f.fewer, c.requires.few))

pub put_place-requires-clause-x : goal.put_place-requires-clause-x
put_place-requires-clause-x g c =
    let begun = c.in-Some.ensures in
    let inside = (firsts c.args.points begun.0 c.in-Some.first begun.1 c.requires.inside).first in
    subst (λ (z : ℤ). is_coordinate z ≡ true) (sym (to_z-of_z w64 c.in-Some.first.x (x_fits c.in-Some.first inside))) (and_parts (is_coordinate c.in-Some.first.x) (is_coordinate c.in-Some.first.y) inside).0

pub put_place-requires-clause-y : goal.put_place-requires-clause-y
put_place-requires-clause-y g c =
    let begun = c.in-Some.ensures in
    let inside = (firsts c.args.points begun.0 c.in-Some.first begun.1 c.requires.inside).first in
    subst (λ (z : ℤ). is_coordinate z ≡ true) (sym (to_z-of_z w64 c.in-Some.first.y (y_fits c.in-Some.first inside))) (and_parts (is_coordinate c.in-Some.first.x) (is_coordinate c.in-Some.first.y) inside).1

pub returns-in_err-list-clause-counts : goal.returns-in_err-list-clause-counts
returns-in_err-list-clause-counts g c =
    let p = err_from_is_err_and c.from_residual.result c.from_residual.ensures.1 in
    let begun = c.in-Some.ensures in
    rw (p.1, begun.1) (first_fails _ (c.in_err-list.ensures.counts c.in-Some.first begun.0 begun.2))

pub returns-in_err-place-clause-counts : goal.returns-in_err-place-clause-counts
returns-in_err-place-clause-counts g c =
    let p = err_from_is_err_and c.from_residual-in_err-place.result c.from_residual-in_err-place.ensures.1 in
    let begun = c.in-Some.ensures in
    let inside = (firsts c.args.points begun.0 c.in-Some.first begun.1 c.requires.inside).first in
    rw (p.1, begun.1) (last_fails (first _ (c.in_ok-list.ensures.counts c.in-Some.first begun.0 begun.2))
    (simp (to_z-of_z w64 c.in-Some.first.x (x_fits c.in-Some.first inside), to_z-of_z w64 c.in-Some.first.y (y_fits c.in-Some.first inside)) at c.in_err-place.ensures.counts))

pub returns-clause-counts : goal.returns-clause-counts
returns-clause-counts g c =
    let begun = c.in-Some.ensures in
    let inside = (firsts c.args.points begun.0 c.in-Some.first begun.1 c.requires.inside).first in
    rw begun.1 (ends (first _ (c.in_ok-list.ensures.counts c.in-Some.first begun.0 begun.2))
    (simp (to_z-of_z w64 c.in-Some.first.x (x_fits c.in-Some.first inside), to_z-of_z w64 c.in-Some.first.y (y_fits c.in-Some.first inside)) at c.in_ok-place.ensures.counts))

pub returns-clause-short : goal.returns-clause-short
returns-clause-short g c =
    let begun = c.in-Some.ensures in
    let f = firsts c.args.points begun.0 c.in-Some.first begun.1 c.requires.inside in
    omega (arith, f.fewer, c.in_ok-list.ensures.short c.in-Some.first begun.0 begun.2, c.in_ok-place.ensures.short)

pub overflow_add-result : goal.overflow_add-result
overflow_add-result g c =
    let begun = c.in-Some.ensures in
    let f = firsts c.args.points begun.0 c.in-Some.first begun.1 c.requires.inside in
    omega (arith, f.fewer, c.requires.few, c.in_ok-list.ensures.short c.in-Some.first begun.0 begun.2, c.in_ok-place.ensures.short)
