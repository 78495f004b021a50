use Rattle.std.proofs.Common.{◌≡◌, take}
use Rattle.std.specs.Prelude.{fold}
use Rattle.oas_checksum.specs.Crc.{after_byte}
use Rattle.oas_checksum.proofs.crc.Crc32.update.Given as goal

abbrev pub invariant-loop-byte : goal.invariant-loop-byte
invariant-loop-byte l = l.register ≡ fold after_byte l.self-inside.register (take l.byte-index l.more)
