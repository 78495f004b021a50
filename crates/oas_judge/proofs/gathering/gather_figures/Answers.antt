use Rattle.oas_judge.proofs.SeriesItems.{so_far_within}
use Rattle.oas_judge.proofs.gathering.gather_figures.Goals as goal

pub pass_figure-requires : goal.pass_figure-requires
pass_figure-requires c = (so_far_within _ _ _ _ _ _ _ c.records.invariant).2
