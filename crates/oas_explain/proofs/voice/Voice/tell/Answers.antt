use Rattle.std.proofs.Common.{rules}
use Rattle.oas_explain.proofs.voice.Voice.tell.Goals as goal

pub returns-else-self : goal.returns-else-self
returns-else-self g c = search rules
