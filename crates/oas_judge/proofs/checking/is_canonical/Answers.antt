use Rattle.oas_judge.proofs.checking.is_canonical.Goals as goal

pub returns-clause-judged : goal.returns-clause-judged
returns-clause-judged g c = c.accept_behind.ensures.judged _ c.in_ok-head.ensures.begun

pub returns-clause-refused : goal.returns-clause-refused
returns-clause-refused g c = c.accept_behind.ensures.refused _ c.in_ok-head.ensures.begun
