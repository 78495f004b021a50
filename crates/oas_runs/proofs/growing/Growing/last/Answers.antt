use Rattle.std.proofs.lemmas.Option.{IfSome_then}
use Rattle.oas_runs.proofs.LastLemmas.{none_then, none_whole, some_whole}
use Rattle.oas_runs.proofs.growing.Growing.last.Goals as goal

pub returns-clause-none : goal.returns-clause-none
returns-clause-none c =
    none_then c.last.result c.last.ensures.none (none_whole c.self.inside.full c.self.inside.last c.args.self.now c.self.invariant.1 c.self.view_is)

pub returns-clause-some : goal.returns-clause-some
returns-clause-some c =
    IfSome_then c.last.result c.last.ensures.some
    (λ e h. some_whole c.self.inside.full c.self.inside.last c.args.self.now (e.key.now, e.times) c.self.view_is h)
