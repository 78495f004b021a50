use Rattle.std.proofs.Common.{rules}
use Rattle.oas_file.proofs.records.take_record.Goals as goal

pub returns-in-End : goal.returns-in-End
returns-in-End g c = search rules
