use Rattle.oas_form.proofs.JudgeStanding as law
use Rattle.oas_form.proofs.judge_laws.judge_represents.Goals as goal

pub returns : goal.returns
returns c = record { first = law.judge_stands_first; draws = law.judge_draws; opens = law.judge_opens; refuses = law.judge_refuses }
