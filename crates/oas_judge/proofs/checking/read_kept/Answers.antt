use Rattle.oas_judge.proofs.checking.read_kept.Goals as goal

pub returns-clause-read : goal.returns-clause-read
returns-clause-read g c = c.read_behind.ensures.read c.args.judged_by _ c.in_ok-head.ensures.begun

pub returns-clause-refused : goal.returns-clause-refused
returns-clause-refused g c = c.read_behind.ensures.refused c.args.judged_by _ c.in_ok-head.ensures.begun
