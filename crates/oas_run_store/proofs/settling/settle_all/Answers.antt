use Rattle.std.proofs.Common.{◌∙◌}
use Rattle.std.specs.Cmp.Lexicographic.{slice_cmp}
use Rattle.std.specs.Ordering.{nat_cmp}
use Rattle.oas_run_store.proofs.StoreLemmas.{joined_fit, same_joined, parts_joined}
use Rattle.oas_run_store.proofs.settling.settle_all.Goals as goal

pub join_all-requires-clause-fits : goal.join_all-requires-clause-fits
join_all-requires-clause-fits c = joined_fit (slice_cmp nat_cmp) c.settle_parts.new.rising c.settle_parts.new.loose c.settle_parts.new.runs.items c.settle_parts.ensures.parts.fits

pub returns-clause-parts : goal.returns-clause-parts
returns-clause-parts c = parts_joined (slice_cmp nat_cmp) c.settle_parts.new.rising c.settle_parts.new.loose c.settle_parts.new.runs.items
    c.join_all.new.runs.items c.settle_parts.ensures.parts c.join_all.ensures.runs c.join_all.ensures.same

pub returns-clause-same : goal.returns-clause-same
returns-clause-same c = λ g.
    same_joined c.settle_parts.new.rising c.settle_parts.new.loose c.settle_parts.new.runs.items c.join_all.new.runs.items c.join_all.ensures.same g ∙ c.settle_parts.ensures.same g
