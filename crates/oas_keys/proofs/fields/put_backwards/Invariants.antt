use Rattle.std.proofs.Common.{◌≡◌, ◌+◌, ◌*◌, ◌≤◌, length, reverse, vec_len, vec_capacity}
use Rattle.oas_keys.proofs.StepLemmas.{Stepping}
use Rattle.oas_keys.proofs.fields.put_backwards.Given as goal

abbrev pub invariant-loop-point : goal.invariant-loop-point
invariant-loop-point l =
    Stepping l.fn.from l.before (reverse l.points) (reverse l.left) l.initial.out.items l.out.items
    × ((vec_len l.out + length l.left * 18 ≤ vec_len l.initial.out + length l.points * 18) × (vec_capacity l.out ≡ vec_capacity l.initial.out))

abbrev pub decreases-loop-point : goal.decreases-loop-point
decreases-loop-point l = length l.left
