use Rattle.oas_form.proofs.ComparingLemmas.{spelled}
use Rattle.oas_form.proofs.judging.is_opening.Goals as goal

pub returns : goal.returns
returns c = spelled c.new-comparer.result c.put_opening.new.sink _ _ c.put_opening.result c.is_done.result c.new-comparer.ensures.rest c.new-comparer.ensures.same
    (rw c.as_bytes.ensures.bytes at c.put_opening.ensures.counts) c.is_done.ensures
