use Rattle.std.proofs.Common.{◌≡◌, ◌++◌, map}
use Rattle.serde_json.specs.View.{view}
use Rattle.oas_info.specs.Json.{layers}
use Rattle.oas_info.proofs.json.layers_value.Given as goal

abbrev pub invariant-loop-group : goal.invariant-loop-group
invariant-loop-group l = (map view l.list.items ++ layers l.group-iterator) ≡ layers l.fn.groups.entries
