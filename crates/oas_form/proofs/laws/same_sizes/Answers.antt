use Rattle.oas_form.proofs.Sizes as law
use Rattle.oas_form.proofs.laws.same_sizes.Goals as goal

pub returns : goal.returns
returns c = record { count = law.same_count; weight = law.same_weight; least = law.least_weight }
