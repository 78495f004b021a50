use Rattle.std.proofs.Common.{length, ap, ◌∙◌, arith}
use Rattle.oas_elements.specs.Meaning.{element_count}
use Rattle.oas_elements.specs.Contents.{Contents, expanded, refusal, added}
use Rattle.oas_layout.proofs.DraftLemmas.{takes, total-le, added_is, added_counted, unchanged_is, unchanged_counted, on_err}
use Rattle.oas_layout.proofs.draft.Draft.hold.Goals as goal

pub add-requires-clause-points : goal.add-requires-clause-points
add-requires-clause-points c = (takes c.args.self.now c.args.element.now c.args.times c.requires.taken).points

pub add-requires-clause-inside : goal.add-requires-clause-inside
add-requires-clause-inside c = (takes c.args.self.now c.args.element.now c.args.times c.requires.taken).inside

pub add-requires-clause-room : goal.add-requires-clause-room
add-requires-clause-room c =
    let t = takes c.args.self.now c.args.element.now c.args.times c.requires.taken in
    let cells = ap (λ (v : Contents). element_count (expanded v.cells)) c.self.view_is in
    let most = ap (λ (v : Contents). v.limits.elements) c.self.view_is in
    let own = total-le c.self.inside.cells.entries c.args.cell c.index_mut.result.now c.index_mut.ensures.value in
    omega (arith, own, cells, most, t.few, c.self.inside.limits.few)

pub invariant_of-self : goal.invariant_of-self
invariant_of-self c =
    let d : Contents = record { unit = c.self.inside.unit; limits = c.self.inside.limits; profile = c.self.inside.profile; cells = c.self.inside.cells.entries; spelled = c.self.inside.spelled } in
    unchanged_counted d c.args.cell c.index_mut.result.now c.add.new.self c.index_mut.ensures.value c.in_err-add.ensures.err c.self.inside.count c.self.invariant

pub returns-in_err-add-clause-err : goal.returns-in_err-add-clause-err
returns-in_err-add-clause-err c =
    let d : Contents = record { unit = c.self.inside.unit; limits = c.self.inside.limits; profile = c.self.inside.profile; cells = c.self.inside.cells.entries; spelled = c.self.inside.spelled } in
    on_err c.from_residual.result (unchanged_is d c.args.cell c.index_mut.result.now c.add.new.self c.index_mut.ensures.value c.in_err-add.ensures.err ∙ c.self.view_is)

pub invariant_of-self-2 : goal.invariant_of-self-2
invariant_of-self-2 c =
    let d : Contents = record { unit = c.self.inside.unit; limits = c.self.inside.limits; profile = c.self.inside.profile; cells = c.self.inside.cells.entries; spelled = c.self.inside.spelled } in
    let many = ap (λ (v : Contents). length v.cells) c.self.view_is in
    let taken = takes d c.args.element.now c.args.times (ap (λ (v : Contents). refusal v c.args.element.now c.args.times) c.self.view_is ∙ c.requires.taken) in
    added_counted d c.args.cell c.index_mut.result.now c.add.new.self c.index_mut.ensures.value c.args.element.now c.args.times c.in_ok-add.ensures.ok c.self.inside.count c.args.spelled c.self.invariant
    (omega (arith, many, c.requires.cell)) c.requires.some c.in_ok-add.ensures.sound taken c.requires.weight

pub returns-clause-ok : goal.returns-clause-ok
returns-clause-ok c =
    let d : Contents = record { unit = c.self.inside.unit; limits = c.self.inside.limits; profile = c.self.inside.profile; cells = c.self.inside.cells.entries; spelled = c.self.inside.spelled } in
    added_is d c.args.cell c.index_mut.result.now c.add.new.self c.index_mut.ensures.value c.args.element.now c.args.times c.in_ok-add.ensures.ok c.args.spelled c.requires.weight
    ∙ ap (λ (v : Contents). added v c.args.cell c.args.element.now c.args.times) c.self.view_is
