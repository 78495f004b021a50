use Rattle.std.proofs.Common.{◌++◌}
use Rattle.std.proofs.lemmas.Result.{err_from_is_err_and}
use Rattle.oas_diff_text.specs.Fields.{key, value_text}
use Rattle.oas_num.proofs.PuttingLemmas.{item_put, item_fails}
use Rattle.oas_diff_text.proofs.fields.put_fields.Goals as goal

pub returns-in_err-put_field : goal.returns-in_err-put_field
returns-in_err-put_field g c =
    let p = err_from_is_err_and c.from_residual.result c.from_residual.ensures.1 in
    rw p.1 (item_fails (λ f. key c.args.syntax f.0.now ++ value_text c.args.syntax c.args.scale.now f.1) c.args.fields.now c.loop-field.field-index _
    c.loop-field-test.true c.loop-field.invariant c.in_err-put_field.ensures)

pub loop-field-preserved : goal.loop-field-preserved
loop-field-preserved g c =
    item_put (λ f. key c.args.syntax f.0.now ++ value_text c.args.syntax c.args.scale.now f.1) c.args.fields.now c.loop-field.field-index _
    c.loop-field-test.true c.loop-field.invariant c.in_ok-put_field.ensures
