use Rattle.std.proofs.Common.{◌≡◌, IsTrue, false, refl, sym, ◌∙◌}
use Rattle.oas_judge.specs.FileJudges.{holds}
use Rattle.oas_judge.proofs.JudgeSteps.{goes_on_failed}
use Rattle.oas_judge.proofs.judge.FileJudge.judge.Goals as goal

pub returns-then-holds : goal.returns-then-holds
returns-then-holds c =
    let told : IsTrue (holds c.args.self.now) = sym c.holds.ensures ∙ c.if-holds.true in
    c.judge_form.ensures c.args.self.now refl told

pub returns-else-holds : goal.returns-else-holds
returns-else-holds c =
    let failed : holds c.args.self.now ≡ false = sym c.holds.ensures ∙ c.if-holds.false in
    goes_on_failed _ c.args.self.now c.args.candidate failed
