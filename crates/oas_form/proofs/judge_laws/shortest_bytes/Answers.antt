use Rattle.oas_form.proofs.JudgeRecords as law
use Rattle.oas_form.proofs.judge_laws.shortest_bytes.Goals as goal

pub returns : goal.returns
returns c = record { head = law.head_is_bytes; cell = law.cell_is_bytes; element = law.element_is_bytes; end = law.end_is_bytes }
