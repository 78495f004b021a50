use Rattle.std.proofs.Common.{List, ℕ, ◌++◌, take}
use Rattle.oas_checksum.specs.Signing.{AreSigned}
use Rattle.oas_checksum.proofs.signing.SignedSums.update.Given as goal

abbrev pub invariant-loop-byte : goal.invariant-loop-byte
invariant-loop-byte l = (bytes : List ℕ) → AreSigned l.fn.self bytes → AreSigned l.self (bytes ++ take l.byte-index l.more)
