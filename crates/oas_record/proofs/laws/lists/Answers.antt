use Rattle.oas_record.specs.Laws.RecordLaws.{PrefixFree-records, OneSpelling-records, IsWithin-records}
use Rattle.oas_record.proofs.laws.lists.Goals as goal

pub returns : goal.returns
returns c = record { front = PrefixFree-records; one = OneSpelling-records; within = IsWithin-records }
