use Rattle.std.proofs.Common.{arith}
use Rattle.oas_judge.proofs.LeastSteps.{plainly_kept}
use Rattle.oas_judge.proofs.figures.is_plainly_kept.Goals as goal

pub returns-then-is_first_least : goal.returns-then-is_first_least
returns-then-is_first_least c done =
    plainly_kept c.args.points.now (omega (arith, c.if-count-le4.false)) (c.is_first_least.ensures c.if-is_first_least.true) (c.is_below.ensures done)
