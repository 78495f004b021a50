use Rattle.std.proofs.Common.{rules, w64, ◌≡◌, ◌++◌, ◌∷◌, [], arith}
use Rattle.std.proofs.lemmas.Int.{to_z-of_z}
use Rattle.oas_peek.proofs.ListLemmas.{alternated_none, alternated_more, alternated_all}
use Rattle.oas_peek.proofs.lists.take_turns.Goals as goal

pub loop-init : goal.loop-init
loop-init c =
    let e : c.in_ok-steps.steps.items ≡ [] = search rules in
    rw e (alternated_none _ _)

pub loop-preserved : goal.loop-preserved
loop-preserved c =
    let e : c.push_step.new.steps.items ≡ c.loop.steps.items ++ c.along.result ∷ [] = search rules in
    rw e (alternated_more c.in_ok-far.far c.loop.invariant c.in_ok-far.ensures (rw (to_z-of_z w64 c.in_ok-far.far (search rules)) at c.along.ensures))

pub returns : goal.returns
returns c = alternated_all _ _ (omega (arith, c.loop-test.false, c.loop.auto.counter-end)) c.loop.invariant
