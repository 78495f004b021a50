use Rattle.std.proofs.lemmas.Result.{err_from_is_err_and}
use Rattle.std.proofs.Common.{◌≡◌, arith}
use Rattle.std.proofs.lemmas.Bool.Decides.{nat_tests}
use Rattle.oas_num.proofs.MidwayLemmas.{image_fails}
use Rattle.oas_record.specs.Records.{placement, text, rectangle, polygon, path, circle}
use Rattle.oas_record.specs.Refusals.{is_known}
use Rattle.oas_record.proofs.AfterLemmas.{fails_at, read_at, kind_read}
use Rattle.oas_record.proofs.records.Record.read_element.Goals as goal

pub returns-in_err-read_quarters-in-17 : goal.returns-in_err-read_quarters-in-17
returns-in_err-read_quarters-in-17 g c =
    let p = err_from_is_err_and c.from_residual.result c.from_residual.ensures.1 in
    λ in_end. rw (p.1, p.2) (fails_at in_end _ 17 c.in-17.is (image_fails placement c.in_err-read_quarters-in-17.ensures))

pub returns-in_err-read_degrees-in-18 : goal.returns-in_err-read_degrees-in-18
returns-in_err-read_degrees-in-18 g c =
    let p = err_from_is_err_and c.from_residual-in_err-read_degrees-in-18.result c.from_residual-in_err-read_degrees-in-18.ensures.1 in
    λ in_end. rw (p.1, p.2) (fails_at in_end _ 18 c.in-18.is (image_fails placement c.in_err-read_degrees-in-18.ensures))

pub returns-in_err-read-in-19 : goal.returns-in_err-read-in-19
returns-in_err-read-in-19 g c =
    let p = err_from_is_err_and c.from_residual-in_err-read-in-19.result c.from_residual-in_err-read-in-19.ensures.1 in
    λ in_end. rw (p.1, p.2) (fails_at in_end _ 19 c.in-19.is (image_fails text c.in_err-read-in-19.ensures))

pub returns-in_err-read-in-20 : goal.returns-in_err-read-in-20
returns-in_err-read-in-20 g c =
    let p = err_from_is_err_and c.from_residual-in_err-read-in-20.result c.from_residual-in_err-read-in-20.ensures.1 in
    λ in_end. rw (p.1, p.2) (fails_at in_end _ 20 c.in-20.is (image_fails rectangle c.in_err-read-in-20.ensures))

pub returns-in_err-read-in-21 : goal.returns-in_err-read-in-21
returns-in_err-read-in-21 g c =
    let p = err_from_is_err_and c.from_residual-in_err-read-in-21.result c.from_residual-in_err-read-in-21.ensures.1 in
    λ in_end. rw (p.1, p.2) (fails_at in_end _ 21 c.in-21.is (image_fails polygon c.in_err-read-in-21.ensures))

pub returns-in_err-read-in-22 : goal.returns-in_err-read-in-22
returns-in_err-read-in-22 g c =
    let p = err_from_is_err_and c.from_residual-in_err-read-in-22.result c.from_residual-in_err-read-in-22.ensures.1 in
    λ in_end. rw (p.1, p.2) (fails_at in_end _ 22 c.in-22.is (image_fails path c.in_err-read-in-22.ensures))

pub returns-in_err-read-in_default : goal.returns-in_err-read-in_default
unfolding is_known
returns-in_err-read-in_default g c =
    let p = err_from_is_err_and c.from_residual-in_err-read-in_default.result c.from_residual-in_err-read-in_default.ensures.1 in
    let is : c.args.id ≡ 27 = grind (arith, nat_tests) in
    λ in_end. rw (p.1, p.2) (fails_at in_end _ 27 is (image_fails circle c.in_err-read-in_default.ensures))

pub returns-in_ok-read-in_default : goal.returns-in_ok-read-in_default
unfolding is_known
returns-in_ok-read-in_default g c =
    let is : c.args.id ≡ 27 = grind (arith, nat_tests) in
    λ in_end. read_at in_end _ 27 is (kind_read circle c.in_ok-read-in_default.ensures)
