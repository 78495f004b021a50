use Rattle.std.specs.Prelude.{◌≤◌, length}
use Rattle.std.proofs.Common.{take, ◌-◌}
use Rattle.oas_keys.specs.Laws.FieldLaws.{NoZero}
use Rattle.oas_keys.proofs.parts.steps_len.Given as goal

abbrev pub invariant-loop-len : goal.invariant-loop-len
invariant-loop-len l = (l.len ≤ length l.bytes) × NoZero (take l.len l.bytes)

abbrev pub decreases-loop-len : goal.decreases-loop-len
decreases-loop-len l = length l.bytes - l.len
