use Rattle.std.specs.Prelude.{◌≡◌, ◌++◌}
use Rattle.std.specs.BTreeSet.{difference}
use Rattle.oas_info.specs.Names.{name_cmp}
use Rattle.oas_info.proofs.names.missing.Given as goal

abbrev pub invariant-loop-name : goal.invariant-loop-name
invariant-loop-name l = (l.list.items ++ l.name-iterator) ≡ difference name_cmp l.fn.names l.fn.others
