use Rattle.std.proofs.Common.{◌≡◌, ◌∙◌, sym, ap, length, None, arith}
use Rattle.indexmap.proofs.CallerLemmas.{insert_entry-new}
use Rattle.oas_elements.specs.Contents.{Contents, cell_refusal, with_cell}
use Rattle.oas_layout.proofs.DraftLemmas.{none_there, cell_taken, pushed_is, pushed_counted}
use Rattle.oas_layout.proofs.draft.Draft.add_cell.Goals as goal

pub invariant_of-self-2 : goal.invariant_of-self-2
invariant_of-self-2 c =
    let d : Contents = record { unit = c.self.inside.unit; limits = c.self.inside.limits; profile = c.self.inside.profile; cells = c.self.inside.cells.entries; spelled = c.self.inside.spelled } in
    let new = insert_entry-new _ c.self.inside.cells c.args.name c.new-empty.result (none_there _ c.if-contains_key.ensures) in
    pushed_counted d c.insert.new.self.entries c.args.name c.new-empty.result (c.in_default.ensures.entries ∙ new) c.new-empty.ensures _ (ap length c.as_bytes.ensures.bytes) c.self.inside.count c.self.invariant
    c.as_bytes.ensures.class (omega (arith, c.if-weight-self.false, c.weight.ensures))

pub returns-clause-ok : goal.returns-clause-ok
returns-clause-ok c =
    let d : Contents = record { unit = c.self.inside.unit; limits = c.self.inside.limits; profile = c.self.inside.profile; cells = c.self.inside.cells.entries; spelled = c.self.inside.spelled } in
    let weight = ap length c.as_bytes.ensures.bytes in
    let none : cell_refusal d c.args.name ≡ None = cell_taken d c.args.name c.if-contains_key.ensures (omega (arith, c.if-weight-self.false, c.weight.ensures, weight)) in
    let new = insert_entry-new _ c.self.inside.cells c.args.name c.new-empty.result (none_there _ c.if-contains_key.ensures) in (
      ap (λ (v : Contents). cell_refusal v c.args.name) (sym c.self.view_is) ∙ none,
      c.cell_count-before.ensures,
      pushed_is d c.insert.new.self.entries c.args.name c.new-empty.result (c.in_default.ensures.entries ∙ new) c.new-empty.ensures _ weight ∙ ap (λ (v : Contents). with_cell v c.args.name) c.self.view_is,
    )
