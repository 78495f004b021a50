use Rattle.std.proofs.Common.{◌≡◌, ◌*◌, ◌%◌, ◌^◌, ◌<◌}
use Rattle.oas_narrow.proofs.turning.doubled_within.Given as goal

abbrev pub invariant-loop : goal.invariant-loop
invariant-loop l = (l.rest < l.whole) × (l.rest ≡ l.num * 2 ^ l.counter % l.whole)
