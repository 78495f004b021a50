use Rattle.oas_form.proofs.Rekeying as law
use Rattle.oas_form.proofs.laws.rekeying.Goals as goal

pub returns : goal.returns
returns c = record { coarser = law.coarser; keeps = law.keeps; within = law.within; own = law.own }
