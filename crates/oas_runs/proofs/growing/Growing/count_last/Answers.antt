use Rattle.oas_runs.proofs.LastLemmas.{none_whole, whole_fits, whole_counted}
use Rattle.oas_runs.proofs.growing.Growing.count_last.Goals as goal

pub count_last-requires-clause-some : goal.count_last-requires-clause-some
count_last-requires-clause-some c = λ e. c.requires.some (none_whole c.self.inside.full c.self.inside.last c.args.self.now c.self.invariant.1 c.self.view_is e)

pub count_last-requires-clause-fits : goal.count_last-requires-clause-fits
count_last-requires-clause-fits c = whole_fits c.self.inside.full c.self.inside.last c.args.self.now c.args.more c.self.view_is c.requires.fits

pub returns-clause-ok : goal.returns-clause-ok
returns-clause-ok c =
    whole_counted c.self.inside.full c.self.inside.last c.count_last.new.self c.args.self.now c.args.more c.self.view_is
    (λ e. c.requires.some (none_whole c.self.inside.full c.self.inside.last c.args.self.now c.self.invariant.1 c.self.view_is e)) c.in_ok-count_last.ensures.ok
