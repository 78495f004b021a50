use Rattle.oas_form.proofs.ComparingLemmas.{spelled}
use Rattle.oas_form.proofs.judging.is_spelled.Goals as goal

pub returns : goal.returns
returns c = spelled c.new-comparer.result c.put_element.new.sink _ _ c.put_element.result c.is_done.result c.new-comparer.ensures.rest c.new-comparer.ensures.same c.put_element.ensures
    c.is_done.ensures
