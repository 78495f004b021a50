use Rattle.std.proofs.Common.{rules}
use Rattle.sha2.specs.Sha256.{hash_after}
use Rattle.oas_checksum.specs.Hashing.{Holds256}
use Rattle.oas_checksum.proofs.hash.hasher.Sha256.new.Goals as goal

pub returns : goal.returns
unfolding Holds256 hash_after
returns c = search rules
