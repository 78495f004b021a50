use Rattle.std.specs.Prelude.{◌==◌}
use Rattle.oas_peek.proofs.NamedLemmas.{lacks, all_fields, text_takes}
use Rattle.oas_peek.proofs.named.take_text.Goals as goal

pub returns : goal.returns
returns c =
    let info = c.in_ok-info.info in
    rw c.note.ensures (text_takes info c.in_ok-string.string (info == 91) c.in_ok-info.ensures c.if-info-ge128.false (lacks info 4 c.if-info-ne0.false)
    c.in_ok-string.ensures c.in_ok-textlayer.ensures c.in_ok-x.ensures c.in_ok-y.ensures (all_fields info))
