use Rattle.std.proofs.Common.{◌≡◌, length, ap, ◌∙◌, rules}
use Rattle.oas_elements.specs.Contents.{Contents}
use Rattle.oas_layout.specs.Held.{cells_held}
use Rattle.oas_layout.specs.Laws.HeldLaws.{cells_keys}
use Rattle.oas_layout.proofs.HeldLemmas.{length-keyed_cells}
use Rattle.oas_layout.proofs.layout.Layout.cell_count.Goals as goal

pub returns : goal.returns
returns c =
    let count : c.len.result ≡ length c.self.inside.cells.items = search rules in
    count ∙ ap length (cells_keys c.self.inside.held) ∙ length-keyed_cells (cells_held c.self.inside.held) ∙ ap (λ (v : Contents). length v.cells) c.self.view_is
