use Rattle.oas_reader.proofs.StandingSteps.{seen_last}
use Rattle.oas_reader.proofs.reader_laws.one_more_record.Goals as goal

pub returns : goal.returns
returns c = seen_last
