use Rattle.std.proofs.Common.{rules}
use Rattle.oascanon_c.proofs.answers.Answer.outcome.Goals as goal

pub returns-in-Refused-First-default : goal.returns-in-Refused-First-default
returns-in-Refused-First-default c = search rules
