use Rattle.std.proofs.Common.{◌*◌}
use Rattle.oas_checksum.specs.Schedule.{IsAhead}
use Rattle.oas_checksum.proofs.hash.block.compress.Given as goal

abbrev pub invariant-turns : goal.invariant-turns
invariant-turns l = IsAhead l.block l.state l.sums l.v l.first l.second l.third l.last (16 * l.turn)
