use Rattle.std.proofs.Common.{rules, ◌≡◌, ◌<◌, length, arith}
use Rattle.oas_runs.specs.Laws.EntryLaws.{entries-none}
use Rattle.oas_runs.proofs.EntryLemmas.{none-left}
use Rattle.oas_runs.proofs.entry.is_over.Goals as goal

pub returns-then-is_empty-clause-over : goal.returns-then-is_empty-clause-over
returns-then-is_empty-clause-over c = λ t. let none : length c.args.bytes.now ≡ 0 = search rules in entries-none _ none

pub returns-clause-left : goal.returns-clause-left
returns-clause-left c = λ f e. let some : 0 < length c.args.bytes.now = search rules in omega (arith, some, none-left c.args.bytes.now e)
