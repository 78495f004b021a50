use Rattle.std.proofs.Common.{rules}
use Rattle.oas_form.proofs.judging.FormJudge.holds.Goals as goal

pub returns : goal.returns
returns c = search rules
