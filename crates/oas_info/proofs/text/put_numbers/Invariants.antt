use Rattle.std.proofs.Common.{◌≡◌, ◌++◌, drop, flat_map}
use Rattle.oas_info.specs.Text.{spaced_number}
use Rattle.oas_info.proofs.text.put_numbers.Given as goal

abbrev pub invariant-loop-number : goal.invariant-loop-number
invariant-loop-number l = (l.text.items ++ flat_map spaced_number (drop l.number-index l.numbers)) ≡ (l.fn.text.items ++ flat_map spaced_number l.numbers)
