use Rattle.std.proofs.Common.{arith}
use Rattle.oas_narrow.proofs.TurningLemmas.{halved_past}
use Rattle.oas_narrow.proofs.turning.halved.Goals as goal

pub returns-then-times-ge64-clause-none : goal.returns-then-times-ge64-clause-none
returns-then-times-ge64-clause-none c = λ none half. halved_past half c.args.num c.args.times (omega (arith, c.if-times-ge64.true)) c.if-num-eq0.false (omega (arith, c.ranges.num.fits))
