use Rattle.oas_record.specs.Laws.RecordLaws.{PrefixFree-record, OneSpelling-record, IsWithin-record}
use Rattle.oas_record.proofs.SomeLemmas.{record_some}
use Rattle.oas_record.proofs.laws.records.Goals as goal

pub returns : goal.returns
returns c = record { front = PrefixFree-record; one = OneSpelling-record; within = IsWithin-record; some = record_some }
