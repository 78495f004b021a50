use Rattle.std.proofs.Common.{List, ℕ, refl, sym, subst}
use Rattle.std.proofs.lemmas.Result.{err_from_is_err_and}
use Rattle.oas_num.specs.Writing.{Writes}
use Rattle.oas_num.proofs.PuttingLemmas.{begins, fails_at, ends, ◌▸◌}
use Rattle.oas_diff_text.proofs.MicronLemmas.{negative_of, other_of}
use Rattle.oas_diff_text.proofs.EntryLemmas.{left_is}
use Rattle.oas_diff_text.proofs.microns.put_microns.Goals as goal

pub returns-in_err-put : goal.returns-in_err-put
returns-in_err-put g c =
    let p = err_from_is_err_and c.from_residual.result c.from_residual.ensures.1 in
    rw p.1 (fails_at _ (left_is (begins _ _) (negative_of c.args.unit c.args.steps _ c.ranges.steps refl c.if-steps-lt0.true)) c.in_err-put.ensures)

pub returns-in_ok-put : goal.returns-in_ok-put
returns-in_ok-put g c =
    ends _ _ (left_is (begins _ _) (negative_of c.args.unit c.args.steps c.unsigned_abs.result c.ranges.steps c.unsigned_abs.ensures.value c.if-steps-lt0.true)
    ▸ c.in_ok-put.ensures) c.put_length.ensures

pub returns-else-steps-lt0 : goal.returns-else-steps-lt0
returns-else-steps-lt0 g c =
    subst (λ (bs : List ℕ). Writes g.K.Sink.given g.K.Sink.failures c.args.sink.now bs c.put_length-else-steps-lt0.result c.put_length-else-steps-lt0.new.sink)
    (sym (other_of c.args.unit c.args.steps c.unsigned_abs-else-steps-lt0.result c.ranges.steps c.unsigned_abs-else-steps-lt0.ensures.value
    c.if-steps-lt0.false)) c.put_length-else-steps-lt0.ensures
