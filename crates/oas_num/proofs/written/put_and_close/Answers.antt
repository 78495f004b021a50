use Rattle.oas_num.proofs.PuttingLemmas.{nothing_left, ends}
use Rattle.oas_num.proofs.written.put_and_close.Goals as goal

pub returns-clause-writes : goal.returns-clause-writes
returns-clause-writes g c = ends _ _ (nothing_left c.in_ok-put_into.ensures.writes) c.close.ensures.writes
