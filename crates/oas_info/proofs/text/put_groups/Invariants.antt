use Rattle.std.proofs.Common.{◌≡◌, ◌++◌}
use Rattle.oas_info.specs.Text.{group_lines}
use Rattle.oas_info.proofs.text.put_groups.Given as goal

abbrev pub invariant-loop-group : goal.invariant-loop-group
invariant-loop-group l = (l.text.items ++ group_lines l.group-iterator) ≡ (l.fn.text.items ++ group_lines l.fn.groups.entries)
