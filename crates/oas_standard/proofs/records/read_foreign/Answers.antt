use Rattle.std.proofs.Common.{◌≡◌, arith}
use Rattle.std.proofs.lemmas.Result.{err_from_is_err_and}
use Rattle.oas_num.proofs.MidwayLemmas.{image_fails}
use Rattle.oas_standard.specs.WideRecords.{a_placement, a_property, a_block}
use Rattle.oas_standard.proofs.ForeignLemmas.{above_names, above_paths, no_circle, last_read}
use Rattle.oas_standard.proofs.records.read_foreign.Goals as goal

pub read_name-requires-clause-above : goal.read_name-requires-clause-above
read_name-requires-clause-above g c = above_names _ c.requires c.if-id-le12.true

pub read_trapezoid-requires-clause-above : goal.read_trapezoid-requires-clause-above
read_trapezoid-requires-clause-above g c = above_paths _ c.requires c.if-id-le12.false c.if-id-eq18.false

pub read_extension-requires-clause-above : goal.read_extension-requires-clause-above
read_extension-requires-clause-above g c = omega (arith, no_circle _ c.requires, c.if-id-le26.false, c.if-id-eq28.false, c.if-id-eq29.false)

pub returns-then-id-le12 : goal.returns-then-id-le12
returns-then-id-le12 g c = λ in_end. c.read_name.ensures in_end

pub returns-in_err-placement : goal.returns-in_err-placement
returns-in_err-placement g c =
    let p = err_from_is_err_and c.from_residual.result c.from_residual.ensures.1 in
    λ in_end. rw (p.1, p.2) (rw c.if-id-eq18.true (image_fails a_placement c.in_err-placement.ensures))

pub returns-then-id-le26 : goal.returns-then-id-le26
returns-then-id-le26 g c = λ in_end. c.read_trapezoid.ensures in_end

pub returns-in_err-property : goal.returns-in_err-property
returns-in_err-property g c =
    let p = err_from_is_err_and c.from_residual-in_err-property.result c.from_residual-in_err-property.ensures.1 in
    λ in_end. rw (p.1, p.2) (rw c.if-id-eq28.true (image_fails a_property c.in_err-property.ensures))

pub returns-then-id-eq29 : goal.returns-then-id-eq29
returns-then-id-eq29 g c = λ in_end. last_read in_end _ _ c.if-id-eq29.true

pub returns-then-id-le33 : goal.returns-then-id-le33
returns-then-id-le33 g c = λ in_end. c.read_extension.ensures in_end

pub returns-in_err-head : goal.returns-in_err-head
returns-in_err-head g c =
    let p = err_from_is_err_and c.from_residual-in_err-head.result c.from_residual-in_err-head.ensures.1 in
    let is : c.args.id ≡ 34 = omega (arith, c.requires.0.1, c.if-id-le33.false) in
    λ in_end. rw (p.1, p.2) (rw is (image_fails a_block c.in_err-head.ensures))
