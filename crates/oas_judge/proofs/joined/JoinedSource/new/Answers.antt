use Rattle.std.proofs.Common.{false}
use Rattle.oas_judge.proofs.JoinedLemmas.{gives_again}
use Rattle.oas_judge.proofs.joined.JoinedSource.new.Goals as goal

pub returns-clause-again : goal.returns-clause-again
returns-clause-again g c = gives_again g.K.Front.script _ c.args.kept.now false c.requires.gave
