use Rattle.std.proofs.Common.{◌+◌, ap, ◌∙◌}
use Rattle.oas_reader.specs.Counted.{Counted}
use Rattle.oas_reader.specs.Weights.{capped}
use Rattle.oas_reader.proofs.SeriesLemmas.{counted_series}
use Rattle.oas_reader.proofs.counted.CountedCellCellStore.draw_series.Goals as goal

pub returns-clause-drawn : goal.returns-clause-drawn
returns-clause-drawn c told = counted_series c.args.self.now _ c.args.count c.args.weight (λ i. record {
  cell = (c.self.view_is i).cell;
  count = (c.self.view_is i).count + c.args.count;
  weight = (c.saturating_add-all.ensures ∙ ap (λ (v : Counted). capped (v.weight + c.args.weight)) c.self.view_is) i;
  placed = (c.self.view_is i).placed;
  written = (c.self.view_is i).written;
})
