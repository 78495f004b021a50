use Rattle.oas_form.proofs.JudgeStanding.{judge_refuses}
use Rattle.oas_form.proofs.judging.FormJudge.refuse.Goals as goal

pub returns : goal.returns
returns c = λ profile entries x s none. judge_refuses profile entries x c.args.self.now.holds c.args.self.now.name c.args.self.now.name c.args.self.now.element c.args.self.now.element s none
