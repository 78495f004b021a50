use Rattle.oas_reader.proofs.CountLemmas.{counted_copy}
use Rattle.oas_reader.proofs.counted.CountedCellCellStore.draw_copy.Goals as goal

pub returns-in-Ok-clause-ok : goal.returns-in-Ok-clause-ok
returns-in-Ok-clause-ok c = counted_copy c.args.self.now _ _ c.in_ok-tally.tally c.args.times c.requires.some c.in-Ok.ensures.ok c.in_ok-tally.ensures.ok
