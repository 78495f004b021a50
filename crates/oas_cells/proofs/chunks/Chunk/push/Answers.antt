use Rattle.std.proofs.Common.{List, [], ◌∷◌, ◌++◌, ◌∙◌, ap, ℕ}
use Rattle.oas_reader.specs.Drawn.{Drawn}
use Rattle.oas_cells.specs.Short.{drawn_of, drawn_once}
use Rattle.oas_cells.proofs.WaitLemmas.{once_more}
use Rattle.oas_cells.proofs.chunks.Chunk.push.Goals as goal

pub returns-clause-ok : goal.returns-clause-ok
returns-clause-ok c =
    ap drawn_once (c.push_reserved.ensures.items ∙ ap (λ ss. ss ++ c.args.short ∷ []) c.make_room.ensures.items)
    ∙ (once_more c.self.inside.shorts.items c.args.short ∙ ap (λ (ps : List (Drawn × ℕ)). ps ++ (drawn_of c.args.short, 1) ∷ []) c.self.view_is)
