use Rattle.std.proofs.Common.{rules}
use Rattle.oas_explain.proofs.voice.Voice.new.Goals as goal

pub returns : goal.returns
returns g c = search rules
