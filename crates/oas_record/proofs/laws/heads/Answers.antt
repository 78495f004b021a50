use Rattle.oas_record.specs.Laws.HeadLaws.{PrefixFree-head, OneSpelling-head, IsWithin-head}
use Rattle.oas_record.proofs.SomeLemmas.{HasSome-head}
use Rattle.oas_record.proofs.laws.heads.Goals as goal

pub returns : goal.returns
returns c = record { front = PrefixFree-head; one = OneSpelling-head; within = IsWithin-head; some = HasSome-head }
