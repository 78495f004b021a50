use Rattle.std.proofs.Common.{◌≡◌, ◌+◌, ◌%◌, ◌*◌, ◌^◌, ◌≤◌, ◌++◌, vec_len, vec_capacity, ℕ, List}
use Rattle.oas_keys.specs.Numbers.{digits}
use Rattle.oas_keys.proofs.digits.put_digits.Given as goal

-- what is put so far, and the digits that are left
pub record Halfway (number count left : ℕ) (before now : List ℕ) : Type 0 where
  pub items : before ++ digits count (number % 2 ^ (8 * count)) ≡ now ++ digits left (number % 2 ^ (8 * left))
  pub low : left ≤ count

abbrev pub invariant-loop-left : goal.invariant-loop-left
invariant-loop-left l = Halfway l.number l.count l.left l.initial.out.items l.out.items
    × ((vec_len l.out + l.left ≡ vec_len l.initial.out + l.count) × (vec_capacity l.out ≡ vec_capacity l.initial.out))

abbrev pub decreases-loop-left : goal.decreases-loop-left
decreases-loop-left l = l.left
