use Rattle.std.proofs.Common.{drop}
use Rattle.oas_diff_text.specs.Fields.{field_texts}
use Rattle.oas_num.proofs.PuttingLemmas.{PutSoFar}
use Rattle.oas_diff_text.proofs.fields.put_fields.Given as goal

abbrev pub invariant-loop-field : goal.invariant-loop-field
invariant-loop-field g l =
    PutSoFar g.K.Sink.given g.K.Sink.failures (field_texts l.syntax l.scale l.fields) (field_texts l.syntax l.scale (drop l.field-index l.fields)) l.fn.sink l.sink
