use Rattle.std.proofs.Common.{ap, ◌∙◌, arith}
use Rattle.oas_checksum.specs.Crc.{after_byte}
use Rattle.oas_checksum.proofs.CrcLemmas.{by_table}
use Rattle.oas_checksum.proofs.crc.after_byte.Goals as goal

pub returns : goal.returns
returns c = by_table c.args.register c.from.result (omega arith) ∙ ap (after_byte c.args.register) c.from.ensures
