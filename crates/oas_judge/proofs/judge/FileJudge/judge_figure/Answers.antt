use Rattle.std.proofs.Common.{◌≡◌, IsTrue, false, sym, ◌∙◌}
use Rattle.oas_judge.specs.FileJudges.{holds}
use Rattle.oas_judge.proofs.JudgeSteps.{peeked_failed}
use Rattle.oas_judge.proofs.FigureSteps.{figure_drawn}
use Rattle.oas_judge.proofs.judge.FileJudge.judge_figure.Goals as goal

pub returns-then-not-holds-clause-yes : goal.returns-then-not-holds-clause-yes
returns-then-not-holds-clause-yes c done all is =
    let failed : holds c.args.self.now ≡ false = sym c.holds.ensures ∙ c.if-not-holds.true in
    peeked_failed _ c.args.self.now _ failed

pub returns-clause-yes : goal.returns-clause-yes
returns-clause-yes c done all is =
    let told : IsTrue (holds c.args.self.now) = sym c.holds.ensures ∙ c.if-not-holds.false in
    figure_drawn c.args.self.now _ c.args.ahead.now c.in-Some.element all told is c.in-Some.ensures c.draw_spelled.ensures
