use Rattle.oas_form.proofs.JudgeStanding.{draws_kept}
use Rattle.oas_form.proofs.judging.FormJudge.draw_spelled.Goals as goal

pub returns : goal.returns
returns c bytes is =
    let f = c.may_follow-self.ensures in
    draws_kept c.args.self.now.holds c.may_follow-self.result c.args.self.now.name c.args.self.now.element c.args.element bytes
    (λ t. let h = f.0 t in (h.0, is, h.1), λ h. f.1 (h.0, h.2))
