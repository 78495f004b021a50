use Rattle.oas_judge.proofs.SeriesItems.{so_far_within}
use Rattle.oas_judge.proofs.gathering.gather_rectangles.Goals as goal

pub pass_rectangle-requires : goal.pass_rectangle-requires
pass_rectangle-requires c = (so_far_within _ _ _ _ _ _ _ c.records.invariant).2
