use Rattle.std.proofs.Common.{rules}
use Rattle.oas_judge.proofs.judge.spelled_element.Goals as goal

pub returns-then-is_drawable : goal.returns-then-is_drawable
returns-then-is_drawable c = search rules
