use Rattle.std.proofs.Common.{rules}
use Rattle.oas_num.proofs.labels.LabelPartialEq.eq.Goals as goal

pub returns : goal.returns
returns c = search rules
