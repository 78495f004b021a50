use Rattle.std.proofs.Common.{◌∙◌}
use Rattle.std.specs.Cmp.Lexicographic.{slice_cmp}
use Rattle.std.specs.Ordering.{nat_cmp}
use Rattle.oas_run_store.proofs.LooseLemmas.{loose_fit, loose_same, loose_parts}
use Rattle.oas_run_store.proofs.settling.settle_parts.Goals as goal

pub settle_loose-requires-clause-fits : goal.settle_loose-requires-clause-fits
settle_loose-requires-clause-fits c = loose_fit (slice_cmp nat_cmp) c.loosen.new.rising c.loosen.new.loose c.loosen.new.runs.items c.loosen.ensures.parts.fits

pub returns-clause-parts : goal.returns-clause-parts
returns-clause-parts c =
    loose_parts (slice_cmp nat_cmp) c.loosen.new.rising c.loosen.new.loose c.settle_loose.new.loose c.loosen.new.runs.items
    c.settle_loose.new.runs.items c.loosen.ensures.parts c.settle_loose.ensures.waits c.settle_loose.ensures.runs c.settle_loose.ensures.same

pub returns-clause-same : goal.returns-clause-same
returns-clause-same c = λ g.
    loose_same c.loosen.new.rising c.loosen.new.loose c.settle_loose.new.loose c.loosen.new.runs.items c.settle_loose.new.runs.items c.settle_loose.ensures.same g
    ∙ c.loosen.ensures.same g ∙ c.settle_long.ensures.same g
