use Rattle.oas_form.proofs.JudgeBytes as law
use Rattle.oas_form.proofs.judge_laws.judged_by_bytes.Goals as goal

pub returns : goal.returns
returns c = record { right = law.bytes_judge; goes_on = law.bytes_go_on; kept = law.kept_bytes }
