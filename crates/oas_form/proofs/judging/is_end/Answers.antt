use Rattle.oas_form.proofs.ComparingLemmas.{spelled}
use Rattle.oas_form.proofs.judging.is_end.Goals as goal

pub returns : goal.returns
returns c = spelled c.new-comparer.result c.put_end.new.sink _ _ c.put_end.result c.is_done.result c.new-comparer.ensures.rest c.new-comparer.ensures.same c.put_end.ensures.counts c.is_done.ensures
