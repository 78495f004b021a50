use Rattle.std.proofs.Common.{ap, ◌∙◌}
use Rattle.std.proofs.lemmas.Result.{IfOk-weaker}
use Rattle.serde_json.specs.Written.{has_float, compact_text}
use Rattle.oas_info.proofs.JsonLemmas.{no_float}
use Rattle.oas_info.proofs.json.json_of.Goals as goal

pub returns : goal.returns
returns c =
    let built = c.in_ok-info_value.ensures in
    IfOk-weaker c.to_vec.result _ _ (λ text h. h (ap has_float built ∙ no_float c.args.info.now) ∙ ap compact_text built) c.to_vec.ensures.text
