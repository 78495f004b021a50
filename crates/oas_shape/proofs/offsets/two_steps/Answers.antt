use Rattle.std.proofs.Common.{arith}
use Rattle.std.proofs.lemmas.Int.{ints}
use Rattle.oas_shape.proofs.OffsetLemmas.{near_sum}
use Rattle.oas_shape.proofs.offsets.two_steps.Goals as goal

pub returns-clause-near : goal.returns-clause-near
returns-clause-near c = near_sum c.steps.result c.steps-2.result _ c.steps.ensures.near c.steps-2.ensures.near (omega (arith, ints))
