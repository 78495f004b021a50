use Rattle.std.proofs.Common.{[], ◌∷◌, ◌++◌, ◌∙◌}
use Rattle.oas_cells.proofs.WaitLemmas.{aside}
use Rattle.oas_cells.proofs.chunks.set_aside.Goals as goal

pub returns : goal.returns
returns c =
    aside c.args.full.now.items c.push_reserved.new.self.items c.args.last.now c.replace-chunk.new.dest
    (c.push_reserved.ensures.items ∙ (λ i. c.reserve.ensures.items i ++ c.replace-chunk.ensures.value i ∷ []))
    (c.replace-chunk.ensures.after ∙ c.new.ensures)
