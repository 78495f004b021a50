use Rattle.oas_form.proofs.Forms as law
use Rattle.oas_form.proofs.laws.one_canonical_form.Goals as goal

pub returns : goal.returns
returns c = record { one = law.one_canonical_form; apart = law.limits_apart }
