use Rattle.std.proofs.Common.{rules}
use Rattle.oascanon_c.proofs.exports.oascanon_c_list.Goals as goal

pub returns : goal.returns
returns c = search rules
