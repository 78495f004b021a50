use Rattle.std.proofs.Common.{rules, ◌≡◌, ℕ, List, ◌∙◌, ap}
use Rattle.oas_reader.specs.Drawn.{Drawn}
use Rattle.oas_reader.specs.Weights.{joined}
use Rattle.oas_cells.specs.Weighing.{waiting_weight, full_weight}
use Rattle.oas_cells.proofs.WeighLemmas.{row_weights}
use Rattle.oas_cells.proofs.weighing.chunks_weight.Goals as goal

pub returns : goal.returns
returns c =
    let items : c.deref.result.now ≡ c.chunks.inside.full.items = search rules in
    c.row_weight.ensures ∙ (
    ap (λ (cs : List (List (Drawn × ℕ))). joined (full_weight c.args.names.now.named c.args.strings.now.named cs) (waiting_weight c.args.names.now.named c.args.strings.now.named c.chunks.inside.last)) items
    ∙ (row_weights c.args.names.now.named c.args.strings.now.named c.chunks.inside.full.items c.chunks.inside.last
    ∙ ap (waiting_weight c.args.names.now.named c.args.strings.now.named) c.chunks.view_is))
