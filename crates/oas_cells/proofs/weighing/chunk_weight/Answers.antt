use Rattle.std.proofs.Common.{rules, ◌≡◌, List, ◌∙◌, ap}
use Rattle.oas_cells.specs.declared.short.Short.{Short}
use Rattle.oas_cells.specs.Short.{drawn_once}
use Rattle.oas_cells.specs.Weighing.{waiting_weight}
use Rattle.oas_cells.proofs.weighing.chunk_weight.Goals as goal

pub returns : goal.returns
returns c =
    let items : c.deref.result.now ≡ c.chunk.inside.shorts.items = search rules in
    c.shorts_weight.ensures ∙ (ap (λ (ss : List Short). waiting_weight c.args.names.now.named c.args.strings.now.named (drawn_once ss)) items
    ∙ ap (waiting_weight c.args.names.now.named c.args.strings.now.named) c.chunk.view_is)
