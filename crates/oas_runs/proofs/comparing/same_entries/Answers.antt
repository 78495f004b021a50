use Rattle.std.proofs.Common.{rules}
use Rattle.oas_runs.proofs.comparing.same_entries.Goals as goal

pub loop-key-preserved : goal.loop-key-preserved
loop-key-preserved c = search rules
