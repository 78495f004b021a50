use Rattle.oas_form.proofs.JudgeRecords as law
use Rattle.oas_form.proofs.judge_laws.judge_goes_on.Goals as goal

pub returns : goal.returns
returns c = record { begins = law.judge_begins; goes_on = law.judge_goes_on; steps = law.judge_steps; stays = law.judge_stays }
