use Rattle.oas_canon.proofs.Whole.{answers_judged, answers_exactly}
use Rattle.oas_canon.proofs.checking.is_canonical.Goals as goal

pub returns-clause-judged : goal.returns-clause-judged
returns-clause-judged g c = answers_judged _ _ _ _ c.is_canonical.result c.is_canonical.ensures.judged

pub returns-clause-exactly : goal.returns-clause-exactly
returns-clause-exactly g c = answers_exactly _ _ _ _ c.is_canonical.result c.is_canonical.ensures.judged c.is_canonical.ensures.refused
