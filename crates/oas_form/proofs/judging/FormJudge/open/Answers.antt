use Rattle.oas_form.proofs.JudgeStanding.{judge_opens}
use Rattle.oas_form.proofs.judging.FormJudge.open.Goals as goal

pub returns : goal.returns
returns c = λ profile entries s. judge_opens profile entries c.args.name c.args.bytes.now c.args.self.now.holds c.may_open-self.result c.args.self.now.name c.args.self.now.element s
    c.may_open-self.ensures
