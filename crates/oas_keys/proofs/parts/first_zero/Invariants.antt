use Rattle.std.proofs.Common.{◌≡◌, ◌+◌, drop}
use Rattle.oas_keys.specs.Reading.{text_len}
use Rattle.oas_keys.proofs.parts.first_zero.Given as goal

abbrev pub invariant-loop-byte : goal.invariant-loop-byte
invariant-loop-byte l = (text_len l.bytes ≡ l.len + text_len (drop l.byte-index l.bytes)) × (l.len ≡ l.byte-index)
