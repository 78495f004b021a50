use Rattle.oas_judge.proofs.named.write.Goals as goal

pub returns-clause-yes : goal.returns-clause-yes
returns-clause-yes c done = rw (c.write_next.ensures.no c.if-write_next.false) at (c.write_first.ensures.yes done)
