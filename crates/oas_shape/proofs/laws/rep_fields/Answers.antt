use Rattle.oas_shape.specs.Laws.RepetitionLaws.{PrefixFree-rep_field, OneSpelling-rep_field, IsWithin-rep_field, HasSome-rep_field}
use Rattle.oas_shape.proofs.laws.rep_fields.Goals as goal

pub returns : goal.returns
returns c = record { front = PrefixFree-rep_field; one = OneSpelling-rep_field; within = IsWithin-rep_field; some = HasSome-rep_field }
