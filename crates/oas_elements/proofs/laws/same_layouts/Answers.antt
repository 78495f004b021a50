use Rattle.oas_elements.proofs.LawProofs.{reflexive, symmetric, transitive}
use Rattle.oas_elements.proofs.laws.same_layouts.Goals as goal

pub returns : goal.returns
returns c = record { reflexive = reflexive; symmetric = symmetric; transitive = transitive }
