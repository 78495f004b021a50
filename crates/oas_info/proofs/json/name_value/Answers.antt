use Rattle.std.proofs.Common.{sym, ap, subst, ◌∙◌}
use Rattle.std.specs.Prelude.{IsUtf8}
use Rattle.serde_json.specs.Data.{string}
use Rattle.oas_info.proofs.JsonLemmas.{name_is_utf8}
use Rattle.oas_info.proofs.json.name_value.Goals as goal

pub returns : goal.returns
returns c =
    let same = c.as_bytes.ensures.bytes in
    let text = c.in_ok-from_utf8_lossy.ensures.ok (subst IsUtf8 (sym same) (name_is_utf8 c.args.name.now c.as_bytes.ensures.class)) in
    c.from.ensures ∙ ap string (text ∙ same)
