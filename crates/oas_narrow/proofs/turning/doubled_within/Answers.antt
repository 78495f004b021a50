use Rattle.std.proofs.Common.{◌∙◌, arith}
use Rattle.oas_narrow.proofs.TurningLemmas.{doubled_once, doubled_over}
use Rattle.oas_narrow.proofs.turning.doubled_within.Goals.{then-rest-whole, else-rest-whole}
use Rattle.oas_narrow.proofs.turning.doubled_within.Goals as goal

pub loop-preserved : goal.loop-preserved
loop-preserved c = elim c.if-rest-whole.branch [
  | then-rest-whole w ↦ (
    omega (arith, w.rest-is, w.if-rest-whole.true, c.loop.invariant.0),
    w.rest-is ∙ doubled_over c.args.num c.loop.counter c.args.whole c.loop.rest c.requires.some c.loop.invariant.1 (omega (arith, w.if-rest-whole.true)),
  )
  | else-rest-whole w ↦ (
    omega (arith, w.rest-is, w.if-rest-whole.false, c.loop.invariant.0),
    w.rest-is ∙ doubled_once c.args.num c.loop.counter c.args.whole c.loop.rest c.requires.some c.loop.invariant.1 (omega (arith, w.if-rest-whole.false)),
  )
]
