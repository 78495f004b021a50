use Rattle.std.proofs.Common.{◌≡◌, ◌++◌, map}
use Rattle.serde_json.specs.View.{view}
use Rattle.oas_info.specs.Json.{textlayers}
use Rattle.oas_info.proofs.json.textlayers_value.Given as goal

abbrev pub invariant-loop-group : goal.invariant-loop-group
invariant-loop-group l = (map view l.list.items ++ textlayers l.group-iterator) ≡ textlayers l.fn.groups.entries
