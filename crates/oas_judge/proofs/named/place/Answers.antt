use Rattle.oas_judge.proofs.named.place.Goals as goal

pub returns-clause-yes : goal.returns-clause-yes
returns-clause-yes c done = rw (c.place_next.ensures.no c.if-place_next.false) at (c.place_first.ensures.yes done)
