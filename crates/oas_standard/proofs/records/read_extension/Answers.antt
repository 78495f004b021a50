use Rattle.std.proofs.Common.{arith}
use Rattle.std.proofs.lemmas.Result.{err_from_is_err_and}
use Rattle.oas_num.proofs.MidwayLemmas.{image_fails}
use Rattle.oas_standard.specs.WideRecords.{a_geometry}
use Rattle.oas_standard.proofs.ForeignLemmas.{two_ids, three_ids, attributed_fails, extension_read, element_read}
use Rattle.oas_standard.proofs.records.read_extension.Goals as goal

pub returns-in_err-geometry : goal.returns-in_err-geometry
returns-in_err-geometry g c =
    let p = err_from_is_err_and c.from_residual.result c.from_residual.ensures.1 in
    λ in_end. rw (p.1, p.2) (rw c.if-id-eq33.true (image_fails a_geometry c.in_err-geometry.ensures))

pub returns-in_err-attribute : goal.returns-in_err-attribute
returns-in_err-attribute g c =
    let p = err_from_is_err_and c.from_residual-in_err-attribute.result c.from_residual-in_err-attribute.ensures.1 in
    λ in_end. rw (p.1, p.2) (attributed_fails in_end _ (three_ids _ 30 c.requires.above (omega (arith, c.requires.below, c.if-id-eq33.false))) c.in_err-attribute.ensures)

pub returns-then-id-eq32 : goal.returns-then-id-eq32
returns-then-id-eq32 g c = λ in_end. element_read in_end _ _ c.if-id-eq32.true c.in_ok-attribute.ensures

pub returns-else-id-eq32 : goal.returns-else-id-eq32
returns-else-id-eq32 g c = λ in_end. extension_read in_end _ _ (two_ids _ 30 c.requires.above (omega (arith, c.requires.below, c.if-id-eq33.false, c.if-id-eq32.false))) c.in_ok-attribute.ensures
