use Rattle.std.proofs.Common.{rules}
use Rattle.oas_explain.proofs.recording.Recorded.new.Goals as goal

pub returns : goal.returns
returns g c = search rules
