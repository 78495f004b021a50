use Rattle.std.proofs.Common.{◌∙◌, ap, ℕ, ◌+◌, arith}
use Rattle.oas_drawing.specs.Drawn.{weight_so_far}
use Rattle.oas_drawing.specs.Named.{drawn_once}
use Rattle.oas_reader.specs.Weights.{capped}
use Rattle.oas_reader.proofs.WeightLemmas.{capped_once}
use Rattle.oas_reader.proofs.CountLemmas.{counted_up}
use Rattle.oas_reader.proofs.counted.CountedCellCellStore.draw_once.Goals as goal

pub returns-clause-ok : goal.returns-clause-ok
returns-clause-ok c =
    counted_up c.args.self.now (drawn_once c.args.drawn.now) 1 _ _ c.self.inside.weight _ _ _ (omega arith) (c.self.view_is ∙ c.in_ok-count_once.ensures.ok)
    (c.saturating_add-self-inside.ensures ∙ (ap (λ (m : ℕ). capped (c.self.inside.weight + m)) c.weight.ensures ∙ capped_once c.self.inside.weight (weight_so_far (drawn_once c.args.drawn.now))))
