use Rattle.oas_listing.proofs.ComparingLemmas.{spelled}
use Rattle.oas_writing.proofs.matching.has_canonical_bytes.Goals as goal

pub returns-clause-bytes : goal.returns-clause-bytes
returns-clause-bytes c =
    spelled c.new-comparer.result c.put_canonical.new.sink _ _ c.put_canonical.result c.is_done.result c.new-comparer.ensures.rest c.new-comparer.ensures.same c.put_canonical.ensures.counts
    c.is_done.ensures
