use Rattle.oas_peek.proofs.FrontLemmas.{one_takes, behind_some}
use Rattle.oas_peek.proofs.fronts.Front.unsigned.Goals as goal

pub returns-then-first-lt128 : goal.returns-then-first-lt128
returns-then-first-lt128 c = rw c.from.ensures (one_takes _ _ _ c.in_ok-first.ensures c.if-first-lt128.true)

pub returns : goal.returns
returns c = behind_some _ _ _ _ c.in_ok-first.ensures _ c.longer.ensures
