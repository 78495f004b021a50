use Rattle.std.proofs.Common.{subst}
use Rattle.oas_elements.specs.Contents.{Contents, IsSealed}
use Rattle.oas_layout.proofs.SealLemmas.{runs_hold, is_layout, is_sealed}
use Rattle.oas_layout.proofs.draft.Draft.seal.Goals as goal

pub of-requires-clause-held : goal.of-requires-clause-held
of-requires-clause-held c =
    runs_hold (record { unit = c.self.inside.unit; limits = c.self.inside.limits; profile = c.self.inside.profile; cells = c.self.inside.cells.entries; spelled = c.self.inside.spelled }) c.self.inside.count c.self.invariant c.unit_fits.ensures _ c.in_ok-runs.ensures

pub of-requires-clause-layout : goal.of-requires-clause-layout
of-requires-clause-layout c =
    is_layout (record { unit = c.self.inside.unit; limits = c.self.inside.limits; profile = c.self.inside.profile; cells = c.self.inside.cells.entries; spelled = c.self.inside.spelled }) c.self.inside.count c.self.invariant c.unit_fits.ensures _ c.in_ok-runs.ensures

pub returns : goal.returns
returns c =
    subst (λ (v : Contents). IsSealed v c.of.result) c.self.view_is
    (is_sealed (record { unit = c.self.inside.unit; limits = c.self.inside.limits; profile = c.self.inside.profile; cells = c.self.inside.cells.entries; spelled = c.self.inside.spelled }) c.self.inside.count c.self.invariant c.unit_fits.ensures _ c.in_ok-runs.ensures _ c.of.ensures)
