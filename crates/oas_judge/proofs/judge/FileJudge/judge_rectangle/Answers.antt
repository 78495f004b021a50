use Rattle.std.proofs.Common.{◌≡◌, false, sym, ◌∙◌}
use Rattle.oas_judge.specs.FileJudges.{holds}
use Rattle.oas_judge.proofs.JudgeSteps.{peeked_failed}
use Rattle.oas_judge.proofs.judge.FileJudge.judge_rectangle.Goals as goal

pub returns-then-not-holds-clause-yes : goal.returns-then-not-holds-clause-yes
returns-then-not-holds-clause-yes c done all is =
    let failed : holds c.args.self.now ≡ false = sym c.holds.ensures ∙ c.if-not-holds.true in
    peeked_failed _ c.args.self.now _ failed

pub see_rectangle-requires : goal.see_rectangle-requires
see_rectangle-requires c = sym c.holds.ensures ∙ c.if-not-holds.false

pub returns-clause-yes : goal.returns-clause-yes
returns-clause-yes c done all is = (c.see_rectangle.ensures.yes done all is).taking
