use Rattle.std.proofs.Common.{rules}
use Rattle.oas_narrow.proofs.dropping.Report.count.Goals as goal

pub returns-in-Property : goal.returns-in-Property
returns-in-Property c = search rules
