use Rattle.oas_checksum.proofs.HashingLemmas.{counted}
use Rattle.std.proofs.Common.{arith}
use Rattle.oas_checksum.proofs.hash.hasher.Sha256.update.Goals as goal

pub returns : goal.returns
returns c = λ m held. counted c.args.self.now _ m c.args.bytes.now held (omega (arith, c.absorb.ensures.total)) (c.absorb.ensures.bytes m held)
