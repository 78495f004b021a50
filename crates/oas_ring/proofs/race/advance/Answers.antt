use Rattle.std.proofs.Common.{sym, ◌∙◌, rules}
use Rattle.oas_ring.proofs.RaceLemmas.{race_equal, race_less, race_greater}
use Rattle.oas_ring.proofs.race.advance.Goals as goal

pub returns-in-Equal-clause-race : goal.returns-in-Equal-clause-race
returns-in-Equal-clause-race c = λ q h a b e. race_equal q c.args.race h b (sym e ∙ c.in-Equal.is)

pub returns-in-Less-clause-race : goal.returns-in-Less-clause-race
returns-in-Less-clause-race c = λ q h a b e. race_less q c.args.race h b (sym e ∙ c.in-Less.is)

pub returns-in-Greater-clause-race : goal.returns-in-Greater-clause-race
returns-in-Greater-clause-race c = λ q h a b e. race_greater q c.args.race c.max.result (search rules) h a b (sym e ∙ c.in-Greater.is)
