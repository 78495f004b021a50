use Rattle.std.proofs.Common.{rules}
use Rattle.oas_num.proofs.names.NamePartialEq.eq.Goals as goal

pub returns : goal.returns
returns c = search rules
