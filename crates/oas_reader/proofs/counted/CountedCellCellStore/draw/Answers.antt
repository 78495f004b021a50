use Rattle.oas_reader.proofs.CountLemmas.{counted_or, counted_none}
use Rattle.oas_reader.proofs.counted.CountedCellCellStore.draw.Goals as goal

pub returns-clause-ok : goal.returns-clause-ok
returns-clause-ok c = counted_or c.count_times.result c.args.self.now _ c.args.drawn c.tally.result c.args.times c.requires.some c.count_times.ensures.ok c.tally.ensures.weight c.tally.ensures.used

pub returns-clause-err : goal.returns-clause-err
returns-clause-err c = counted_none c.count_times.result c.args.self.now _ c.count_times.ensures.err
