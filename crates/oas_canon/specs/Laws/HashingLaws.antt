-- What follows for a sink that hashes.
use Rattle.std.proofs.Common.{[], append-nil}
use Rattle.oas_canon.specs.declared.hashing.Hasher.{Hasher}
use Rattle.oas_canon.specs.Hashing.{Hashes}

-- if nothing was put, nothing was given
pub Hashes-none : (s : Hasher) → Hashes s [] s
Hashes-none s m t = rw append-nil t
