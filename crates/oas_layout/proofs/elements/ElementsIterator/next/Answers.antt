use Rattle.std.proofs.Common.{ℕ}
use Rattle.oas_elements.specs.declared.element.Element.{Element}
use Rattle.oas_layout.proofs.HeldLemmas.{split, first_taken, none_taken, left_entries, light_left}
use Rattle.oas_layout.proofs.StepLemmas.{goes}
use Rattle.oas_layout.proofs.elements.ElementsIterator.next.Goals as goal

pub invariant_of-self-inside : goal.invariant_of-self-inside
invariant_of-self-inside c = (left_entries _ _ _ c.next.ensures.steps c.self.inside.held, tt)

pub invariant_of-self : goal.invariant_of-self
invariant_of-self c = light_left _ _ _ c.next.ensures.steps c.self.inside.held _ c.self.invariant

pub invariant_of-self-2 : goal.invariant_of-self-2
invariant_of-self-2 c = light_left _ _ _ c.next.ensures.steps c.self.inside.held _ c.self.invariant

pub returns-in_err-key-clause-steps : goal.returns-in_err-key-clause-steps
returns-in_err-key-clause-steps c = none_taken (λ (p : Element × ℕ). p) _ _ c.self.inside.held c.from_residual.ensures c.self.view_is c.in_err-key.ensures.steps.0 c.in_err-key.ensures.steps.1 _

pub of-requires : goal.of-requires
of-requires c =
    let s = split _ _ c.self.inside.held c.in_ok-key.ensures.steps in
    (s.first.0, s.sound, s.key)

pub returns-clause-steps : goal.returns-clause-steps
returns-clause-steps c =
    let s = split _ _ c.self.inside.held c.in_ok-key.ensures.steps in
    first_taken s _ _ c.self.view_is (λ i. (c.of.ensures s.first.0 s.sound s.key i, s.times i)) _

pub returns-clause-goes : goal.returns-clause-goes
returns-clause-goes c = goes (λ (p : Element × ℕ). p) _ _ _ tt (returns-clause-steps c)
