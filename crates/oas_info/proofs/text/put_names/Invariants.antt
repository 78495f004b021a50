use Rattle.std.proofs.Common.{◌≡◌, ◌++◌, drop, flat_map}
use Rattle.oas_info.specs.Text.{behind_space}
use Rattle.oas_info.proofs.text.put_names.Given as goal

abbrev pub invariant-loop-name : goal.invariant-loop-name
invariant-loop-name l = (l.text.items ++ flat_map behind_space (drop l.name-index l.names)) ≡ (l.fn.text.items ++ flat_map behind_space l.names)
