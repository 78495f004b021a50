use Rattle.oas_ring.proofs.SoleLemmas.{least_forwards, least_backwards}
use Rattle.oas_ring.proofs.least.least_from.Goals as goal

pub returns-in-Greater-clause-least : goal.returns-in-Greater-clause-least
returns-in-Greater-clause-least c =
    let order = rw c.new.ensures.points at c.compare_readings.ensures.order in
    least_backwards c.args.points.now c.args.start c.compare_readings.result c.requires order c.in-Greater.is

pub returns-in_default : goal.returns-in_default
returns-in_default c =
    let order = rw c.new.ensures.points at c.compare_readings.ensures.order in
    record {
      start = c.requires.within;
      least = least_forwards c.args.points.now c.args.start c.compare_readings.result c.requires order c.in_default.not-Greater;
    }
