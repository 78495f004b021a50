use Rattle.std.proofs.Common.{rules}
use Rattle.oas_explain.proofs.recording.Recorded.fault.Goals as goal

pub returns : goal.returns
returns g c = search rules
