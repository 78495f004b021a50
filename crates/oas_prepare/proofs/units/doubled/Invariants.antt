use Rattle.std.proofs.Common.{ℕ, ◌*◌, ◌^◌, ◌<◌}
use Rattle.oas_num.specs.Ratio.{Reduces}
use Rattle.oas_prepare.specs.Units.{ratio}
use Rattle.oas_prepare.proofs.units.doubled.Given as goal

abbrev pub invariant-loop : goal.invariant-loop
invariant-loop l = record {
  fits : l.upper < 2 ^ 64;
  reduces : (a b : ℕ) → Reduces a b (ratio l.num l.den) → Reduces (a * 2 ^ l.counter) b (ratio l.upper l.lower);
}
