use Rattle.oas_judge.proofs.JudgeSteps.{goes_on_opened, goes_on_drawn, goes_on_refused}
use Rattle.oas_judge.proofs.judge.judge_form.Goals as goal

pub returns-in-Cell : goal.returns-in-Cell
returns-in-Cell c j is told = rw c.in-Cell.is (goes_on_opened _ j _ told c.in-Cell.name (rw (← is) at c.open.ensures))

pub returns-in-Element : goal.returns-in-Element
returns-in-Element c j is told = rw c.in-Element.is (goes_on_drawn _ j _ told c.in-Element.element (rw (← is) at c.draw.ensures))

pub returns-in-Other : goal.returns-in-Other
returns-in-Other c j is told = rw c.in-Other.is (goes_on_refused _ j _ told (rw (← is) at c.refuse.ensures))
