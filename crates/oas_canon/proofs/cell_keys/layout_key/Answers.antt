use Rattle.oas_canon.proofs.HashingLemmas.{hashed}
use Rattle.oas_canon.proofs.cell_keys.layout_key.Goals as goal

pub returns : goal.returns
returns c = c.finish.ensures _ (hashed c.new-hasher.result c.put_canonical.new.sink _ c.put_canonical.result c.put_canonical.ensures.counts c.new-hasher.ensures)
