use Rattle.oas_record.specs.Laws.RecordLaws.{one_list}
use Rattle.oas_record.proofs.laws.one_list.Goals as goal

pub returns : goal.returns
returns c = one_list
