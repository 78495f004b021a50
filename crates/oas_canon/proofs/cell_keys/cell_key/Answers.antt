use Rattle.oas_canon.proofs.HashingLemmas.{hashed}
use Rattle.oas_canon.proofs.cell_keys.cell_key.Goals as goal

pub returns : goal.returns
returns c = c.finish.ensures _ (hashed c.new-hasher.result c.put_cell_alone.new.sink _ c.put_cell_alone.result c.put_cell_alone.ensures.counts c.new-hasher.ensures)
