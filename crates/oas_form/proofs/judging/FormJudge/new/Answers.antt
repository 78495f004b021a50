use Rattle.oas_form.proofs.JudgeStanding.{judge_stands_first}
use Rattle.oas_form.proofs.judging.FormJudge.new.Goals as goal

pub returns : goal.returns
returns c = judge_stands_first
