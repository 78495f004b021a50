use Rattle.std.proofs.Common.{◌≡◌, ◌-◌, ◌^◌}
use Rattle.oas_standard.proofs.LongLemmas.{LongWay}
use Rattle.oas_standard.proofs.long.read_long.Given as goal

abbrev pub invariant-loop-byte : goal.invariant-loop-byte
invariant-loop-byte g l = record {
  start : l.start ≡ (g.S.Source.script l.fn.source).given;
  so_far : LongWay (g.S.Source.script l.fn.source) (g.S.Source.script l.source) l.value;
}

abbrev pub decreases-loop-byte : goal.decreases-loop-byte
decreases-loop-byte g l = 2 ^ 64 - (g.S.Source.script l.source).given
