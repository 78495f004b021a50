use Rattle.std.proofs.Common.{rules}
use Rattle.oas_num.proofs.names.NamePartialOrd.partial_cmp.Goals as goal

pub returns : goal.returns
returns c = search rules
