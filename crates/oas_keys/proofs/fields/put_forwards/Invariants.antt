use Rattle.std.proofs.Common.{◌≡◌, ◌+◌, ◌*◌, ◌≤◌, drop, vec_len, vec_capacity}
use Rattle.oas_keys.proofs.StepLemmas.{Stepping}
use Rattle.oas_keys.proofs.fields.put_forwards.Given as goal

abbrev pub invariant-loop-point : goal.invariant-loop-point
invariant-loop-point l =
    Stepping l.fn.from l.before l.points (drop l.point-index l.points) l.initial.out.items l.out.items
    × ((vec_len l.out ≤ vec_len l.initial.out + l.point-index * 18) × (vec_capacity l.out ≡ vec_capacity l.initial.out))
