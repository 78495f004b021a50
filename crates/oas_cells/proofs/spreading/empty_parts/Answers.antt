use Rattle.oas_cells.proofs.SortLemmas.{empty_more}
use Rattle.oas_cells.proofs.spreading.empty_parts.Goals as goal

pub loop-preserved : goal.loop-preserved
loop-preserved c =
    empty_more c.loop.parts.items c.push.new.self.items c.new.result c.loop.counter c.new.ensures c.in_ok-push.ensures.items c.loop.invariant.empty c.loop.invariant.len
