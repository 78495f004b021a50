use Rattle.oas_elements.proofs.LawProofs.{apart, held}
use Rattle.oas_elements.proofs.laws.held_counts.Goals as goal

pub returns : goal.returns
returns c = record { apart = apart; counts = held }
