use Rattle.std.proofs.Common.{arith}
use Rattle.oas_checksum.proofs.WordLemmas.{maj_is}
use Rattle.oas_checksum.proofs.hash.scalars.maj.Goals as goal

pub returns : goal.returns
returns c = maj_is c.args.x c.args.y c.args.z (omega arith) (omega arith) (omega arith)
