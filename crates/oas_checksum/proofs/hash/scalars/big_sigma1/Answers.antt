use Rattle.std.proofs.Common.{arith}
use Rattle.oas_checksum.proofs.WordLemmas.{nested}
use Rattle.oas_checksum.proofs.hash.scalars.big_sigma1.Goals as goal

pub returns : goal.returns
returns c =
    rw (c.rotate_right-3.ensures, c.rotate_right-2.ensures, c.rotate_right.ensures)
    (nested c.args.x 6 5 14 (omega arith) (omega arith) (omega arith) (omega arith) (omega arith))
