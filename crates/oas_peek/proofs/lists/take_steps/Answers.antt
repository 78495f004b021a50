use Rattle.std.proofs.Common.{rules, ◌≡◌, ◌++◌, ◌∷◌, [], arith}
use Rattle.oas_peek.proofs.ListLemmas.{none_in, one_more, all_taken}
use Rattle.oas_peek.proofs.lists.take_steps.Goals as goal

pub loop-init : goal.loop-init
loop-init g c =
    let e : c.in_ok-steps.steps.items ≡ [] = search rules in
    rw e (none_in _ _)

pub loop-preserved : goal.loop-preserved
loop-preserved g c =
    let e : c.push_step.new.steps.items ≡ c.loop.steps.items ++ c.in_ok-step.step ∷ [] = search rules in
    rw e (one_more _ _ _ _ c.loop.invariant c.in_ok-step.ensures)

pub returns : goal.returns
returns g c = all_taken _ _ _ (omega (arith, c.loop-test.false, c.loop.auto.counter-end)) _ c.loop.invariant
