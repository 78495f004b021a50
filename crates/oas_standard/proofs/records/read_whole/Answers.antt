use Rattle.std.proofs.Common.{Ok, Err, sym, ◌∙◌, arith}
use Rattle.std.proofs.lemmas.Result.{err_from_is_err_and}
use Rattle.oas_standard.proofs.AnyLengthLemmas.{record_read, record_fails}
use Rattle.oas_standard.proofs.ForeignLemmas.{foreign_done}
use Rattle.oas_standard.proofs.WideLemmas.{profile_known, id_fails, refused_by_id, fields_fail, inner_read, end_fails, end_refused, end_read}
use Rattle.oas_standard.proofs.records.read_whole.Goals as goal

pub returns-in_err-id : goal.returns-in_err-id
returns-in_err-id g c =
    let p = err_from_is_err_and c.from_residual.result c.from_residual.ensures.1 in
    rw (p.1, p.2) (id_fails _ c.in_err-id.ensures)

pub returns-in-Some : goal.returns-in-Some
returns-in-Some g c = refused_by_id _ c.in-Some.ensures c.in_ok-id.ensures

pub returns-in_err-end : goal.returns-in_err-end
returns-in_err-end g c =
    let p = err_from_is_err_and c.from_residual-in_err-end.result c.from_residual-in_err-end.ensures.1 in
    rw (p.1, p.2) (end_fails _ c.if-id-eq2.true c.in_ok-id.ensures c.in_err-end.ensures)

pub returns-then-length-ne-END_LENGTH : goal.returns-then-length-ne-END_LENGTH
returns-then-length-ne-END_LENGTH g c = end_refused _ (λ e. c.if-length-ne-END_LENGTH.true (omega (arith, e, c.at-start.ensures, c.at.ensures)))
    c.if-id-eq2.true c.in_ok-id.ensures c.in_ok-end.ensures

pub returns-then-id-eq2 : goal.returns-then-id-eq2
returns-then-id-eq2 g c = end_read _ (omega (arith, c.if-length-ne-END_LENGTH.false, c.at-start.ensures, c.at.ensures)) c.if-id-eq2.true c.in_ok-id.ensures c.in_ok-end.ensures

pub returns-in-Ok : goal.returns-in-Ok
returns-in-Ok g c = record_read c.args.in_end (sym c.is_profile_id.ensures.is ∙ c.if-is_profile_id.true) c.in_ok-id.ensures (c.in-Ok.ensures.reads c.args.in_end)

pub returns-in-Err : goal.returns-in-Err
returns-in-Err g c = rw c.named.ensures (record_fails c.args.in_end (sym c.is_profile_id.ensures.is ∙ c.if-is_profile_id.true) c.in_ok-id.ensures (c.in-Err.ensures.reads c.args.in_end))

pub returns-in-Ok-read_foreign : goal.returns-in-Ok-read_foreign
returns-in-Ok-read_foreign g c = inner_read _ c.if-id-eq2.false c.in_ok-id.ensures (foreign_done c.args.in_end c.in_ok-id.id _ _ (Ok _) (sym c.is_profile_id.ensures.is ∙ c.if-is_profile_id.false) (c.in-Ok-read_foreign.ensures c.args.in_end))

pub returns-in-Err-read_foreign : goal.returns-in-Err-read_foreign
returns-in-Err-read_foreign g c = rw c.named-in-Err-read_foreign.ensures (fields_fail _ c.in_ok-id.ensures (foreign_done c.args.in_end c.in_ok-id.id _ _ (Err _) (sym c.is_profile_id.ensures.is ∙ c.if-is_profile_id.false) (c.in-Err-read_foreign.ensures c.args.in_end)))

pub read_after-requires-clause-known : goal.read_after-requires-clause-known
read_after-requires-clause-known g c = profile_known c.in_ok-id.id (sym c.is_profile_id.ensures.is ∙ c.if-is_profile_id.true)
