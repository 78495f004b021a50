use Rattle.oas_form.proofs.JudgeBytes as law
use Rattle.oas_form.proofs.judge_laws.form_is_ordered_bytes.Goals as goal

pub returns : goal.returns
returns c = law.form_is_ordered_bytes
