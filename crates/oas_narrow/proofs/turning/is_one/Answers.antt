use Rattle.std.proofs.Common.{◌∙◌, arith}
use Rattle.oas_narrow.proofs.TurningLemmas.{one_up, one_down}
use Rattle.oas_narrow.proofs.turning.is_one.Goals as goal

pub returns-then-real-2 : goal.returns-then-real-2
returns-then-real-2 c =
    c.eq.ensures ∙ one_up c.args.real _ c.if-real.false (omega (arith, c.if-real-eq0.false)) (omega (arith, c.if-real-2.true)) c.halved.ensures.some c.halved.ensures.none

pub returns-else-real-2 : goal.returns-else-real-2
returns-else-real-2 c =
    c.eq-else-real-2.ensures ∙ one_down c.args.real _ c.if-real.false (omega (arith, c.if-real-eq0.false)) (omega (arith, c.if-real-2.false)) c.halved-else-real-2.ensures.some c.halved-else-real-2.ensures.none
