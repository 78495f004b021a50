use Rattle.oas_form.proofs.JudgeStanding.{draws_kept}
use Rattle.oas_form.proofs.judging.FormJudge.draw.Goals as goal

pub returns : goal.returns
returns c = draws_kept c.args.self.now.holds c.may_draw-self.result c.args.self.now.name c.args.self.now.element c.args.element c.args.bytes.now c.may_draw-self.ensures
