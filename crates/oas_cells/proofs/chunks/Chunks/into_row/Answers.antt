use Rattle.std.proofs.Common.{[], ◌∷◌, ◌++◌, ◌∙◌, ap}
use Rattle.oas_runs.specs.Blocks.{joined}
use Rattle.oas_runs.proofs.BlockLemmas.{joined-more}
use Rattle.oas_cells.proofs.chunks.Chunks.into_row.Goals as goal

pub returns : goal.returns
returns c =
    ap joined (c.push_reserved.ensures.items ∙ ap (λ cs. cs ++ c.self.inside.last ∷ []) c.reserve.ensures.items)
    ∙ (joined-more c.self.inside.full.items c.self.inside.last ∙ c.self.view_is)
