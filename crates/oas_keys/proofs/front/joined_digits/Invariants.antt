use Rattle.std.proofs.Common.{◌≡◌, ◌*◌, ◌<◌, ◌^◌, drop}
use Rattle.oas_keys.specs.Reading.{joined_digits}
use Rattle.oas_keys.proofs.front.joined_digits.Given as goal

abbrev pub invariant-loop-byte : goal.invariant-loop-byte
invariant-loop-byte l = (joined_digits 0 l.bytes ≡ joined_digits l.number (drop l.byte-index l.bytes)) × (l.number < 2 ^ (8 * l.byte-index))
