use Rattle.std.proofs.Common.{rules}
use Rattle.oas_explain.proofs.explain.run_explain.Goals as goal

pub returns-in-Some-find : goal.returns-in-Some-find
returns-in-Some-find g c = search rules
