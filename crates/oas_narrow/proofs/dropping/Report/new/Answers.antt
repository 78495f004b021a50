use Rattle.std.proofs.Common.{rules}
use Rattle.oas_narrow.proofs.dropping.Report.new.Goals as goal

pub returns : goal.returns
returns c = search rules
