use Rattle.std.proofs.Common.{rules}
use Rattle.oas_explain.proofs.voice.Voice.unopened.Goals as goal

pub returns-else-self-clause-plain : goal.returns-else-self-clause-plain
returns-else-self-clause-plain g c = search rules
