use Rattle.oas_form.proofs.Boxes as law
use Rattle.oas_form.proofs.laws.boxes_alone_differ.Goals as goal

pub returns : goal.returns
returns c = record { finer = law.finer; within = law.one_is_two; forms = law.forms_differ }
