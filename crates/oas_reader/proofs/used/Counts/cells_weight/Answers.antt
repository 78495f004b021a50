use Rattle.std.proofs.Common.{ℕ, List, ap, ◌∙◌, rules}
use Rattle.oas_reader.specs.Used.{with_table}
use Rattle.oas_reader.specs.Weights.{names_weight}
use Rattle.oas_reader.proofs.WeightLemmas.{names_after}
use Rattle.oas_reader.proofs.used.Counts.cells_weight.Goals as goal

pub loop-number-init : goal.loop-number-init
loop-number-init c =
    names_after c.args.names.now.named _ _ _ _ c.in_ok-weight.ensures.small c.into_iter-number-iterator.ensures.into_iter_gives.0
    (
    c.in_ok-weight.ensures.sum c.self.inside.others.entries
    ∙ ap (λ (ts : List ℕ). names_weight c.args.names.now.named (with_table 0 ts c.self.inside.others.entries)) c.deref.ensures.value
    ∙ ap (names_weight c.args.names.now.named) c.self.view_is
    )

pub loop-number-preserved : goal.loop-number-preserved
loop-number-preserved c = search rules
