use Rattle.oas_canon.proofs.HashingLemmas.{hashed_all}
use Rattle.oas_canon.proofs.given.bytes_key.Goals as goal

pub returns : goal.returns
returns c = c.finish.ensures _ (hashed_all c.new-hasher.result c.put_all.new.self _ c.put_all.result c.put_all.ensures c.new-hasher.ensures)
