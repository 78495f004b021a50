use Rattle.oas_prepare.proofs.Ends as law
use Rattle.oas_prepare.proofs.laws.one_last_record.Goals as goal

pub returns : goal.returns
returns c = law.one_last_record
