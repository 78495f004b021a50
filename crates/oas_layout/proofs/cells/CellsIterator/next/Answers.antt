use Rattle.std.proofs.Common.{◌∙◌}
use Rattle.std.specs.Slice.Iter.{iter_rest}
use Rattle.oas_layout.specs.Held.{name_and_elements}
use Rattle.oas_layout.proofs.HeldLemmas.{split_cells, first_cell_taken, no_cell_taken, none_left, first_left, left_cells, light_cells_left, first_light}
use Rattle.oas_layout.proofs.StepLemmas.{goes}
use Rattle.oas_layout.proofs.cells.CellsIterator.next.Goals as goal

pub invariant_of-self-inside : goal.invariant_of-self-inside
invariant_of-self-inside c = (left_cells _ _ _ (first_left iter_rest _ _ _ c.next.ensures.steps) c.self.inside.held, tt)

pub invariant_of-self : goal.invariant_of-self
invariant_of-self c = light_cells_left _ _ _ (first_left iter_rest _ _ _ c.next.ensures.steps) c.self.inside.held _ c.self.invariant

pub invariant_of-self-2 : goal.invariant_of-self-2
invariant_of-self-2 c = light_cells_left _ _ _ (first_left iter_rest _ _ _ c.next.ensures.steps) c.self.inside.held _ c.self.invariant

pub returns-in_err-name-clause-steps : goal.returns-in_err-name-clause-steps
returns-in_err-name-clause-steps c =
    let none = none_left iter_rest _ _ c.in_err-name.ensures.steps in
    no_cell_taken name_and_elements _ _ c.self.inside.held c.from_residual.ensures c.self.view_is none.0 none.1 _

pub of-requires-clause-held : goal.of-requires-clause-held
of-requires-clause-held c =
    let s = split_cells _ _ c.self.inside.held c.in_ok-name.ensures.steps in
    (s.first.1, s.held, c.entries.ensures ∙ s.keys)

pub of-requires-clause-light : goal.of-requires-clause-light
of-requires-clause-light c =
    let s = split_cells _ _ c.self.inside.held c.in_ok-name.ensures.steps in
    first_light s c.self.invariant (c.entries.ensures ∙ s.keys)

pub returns-clause-steps : goal.returns-clause-steps
returns-clause-steps c =
    let s = split_cells _ _ c.self.inside.held c.in_ok-name.ensures.steps in
    first_cell_taken s _ _ c.self.view_is (λ i. (s.name i, c.of.ensures s.first.1 s.held (c.entries.ensures ∙ s.keys) i)) _

pub returns-clause-goes : goal.returns-clause-goes
returns-clause-goes c = goes name_and_elements _ _ _ tt (returns-clause-steps c)
