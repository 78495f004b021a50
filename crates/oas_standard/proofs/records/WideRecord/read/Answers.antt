use Rattle.std.proofs.Common.{rules}
use Rattle.oas_standard.proofs.records.WideRecord.read.Goals as goal

pub returns-in-Err : goal.returns-in-Err
returns-in-Err g c = search rules
