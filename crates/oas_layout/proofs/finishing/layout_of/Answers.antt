use Rattle.oas_layout.proofs.FinishLemmas.{once, held, layout, made_of}
use Rattle.oas_layout.proofs.finishing.layout_of.Goals as goal

pub runs_by_name-requires-clause-once : goal.runs_by_name-requires-clause-once
runs_by_name-requires-clause-once g c = λ ds h. once c.args.taken.names.named c.args.taken.strings.named c.args.taken.limits ds (rw c.deref.ensures.value at c.in_ok-accept_cells.ensures.ok ds h)

pub of-requires-clause-held : goal.of-requires-clause-held
of-requires-clause-held g c =
    held g.P.KeptBy.profile c.args.taken.names.named c.args.taken.strings.named c.args.taken.limits c.args.taken.unit c.args.taken.cells.items c.in_ok-cells.cells.items
    c.unit_fits.ensures c.requires.sound c.requires.few (rw c.deref.ensures.value at c.in_ok-accept_cells.ensures.ok) c.in_ok-cells.ensures.ok

pub of-requires-clause-layout : goal.of-requires-clause-layout
of-requires-clause-layout g c =
    layout g.P.KeptBy.profile c.args.taken.names.named c.args.taken.strings.named c.args.taken.limits c.args.taken.unit c.args.taken.cells.items c.in_ok-cells.cells.items
    c.unit_fits.ensures c.requires.sound c.requires.few (rw c.deref.ensures.value at c.in_ok-accept_cells.ensures.ok) c.in_ok-cells.ensures.ok c.profile.ensures

pub returns-clause-layout : goal.returns-clause-layout
returns-clause-layout g c =
    made_of g.P.KeptBy.profile c.args.taken.names.named c.args.taken.strings.named c.args.taken.limits c.args.taken.unit c.args.taken.cells.items c.in_ok-cells.cells.items
    c.unit_fits.ensures c.requires.sound c.requires.few (rw c.deref.ensures.value at c.in_ok-accept_cells.ensures.ok) c.in_ok-cells.ensures.ok c.profile.ensures _ c.of.ensures
