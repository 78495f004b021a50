use Rattle.oas_judge.proofs.SeriesItems.{so_far_within}
use Rattle.oas_judge.proofs.gathering.gather_named.Goals as goal

pub pass_named-requires : goal.pass_named-requires
pass_named-requires c = (so_far_within _ _ _ _ _ _ _ c.records.invariant.so_far).2
