use Rattle.std.proofs.Common.{arith}
use Rattle.oas_checksum.proofs.WordLemmas.{ch_is}
use Rattle.oas_checksum.proofs.hash.scalars.ch.Goals as goal

pub returns : goal.returns
returns c = ch_is c.args.x c.args.y c.args.z (omega arith) (omega arith) (omega arith)
