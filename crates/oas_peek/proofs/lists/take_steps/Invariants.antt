use Rattle.oas_peek.specs.Lists.{ConsumesIn, steps_in}
use Rattle.oas_peek.proofs.lists.take_steps.Given as goal

abbrev pub invariant-loop : goal.invariant-loop
invariant-loop g l = ConsumesIn (steps_in g.D.StepAtHand.spells l.counter) l.steps.items l.fn.front l.front
