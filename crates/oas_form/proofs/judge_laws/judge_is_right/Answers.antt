use Rattle.oas_form.proofs.JudgeRecords as law
use Rattle.oas_form.proofs.judge_laws.judge_is_right.Goals as goal

pub returns : goal.returns
returns c = record { right = law.judge_is_right; read = law.is_read }
