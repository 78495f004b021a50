use Rattle.std.proofs.Common.{◌≡◌, ◌∙◌, decimal}
use Rattle.oas_diff_text.proofs.fields.put_number.Goals as goal

pub returns : goal.returns
returns g c =
    let digits : c.as_bytes.result.now ≡ decimal c.args.number = c.as_bytes.ensures.value ∙ c.format.ensures.text in
    rw (← digits) c.put_all.ensures
