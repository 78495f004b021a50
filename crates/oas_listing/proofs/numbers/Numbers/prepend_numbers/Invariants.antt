use Rattle.std.proofs.Common.{◌≡◌, ◌+◌, ◌*◌, ◌≤◌, ◌∷◌, ◌++◌, length, drop, flat_map}
use Rattle.std.specs.Fmt.{decimal}
use Rattle.oas_listing.proofs.numbers.Numbers.prepend_numbers.Given as goal

abbrev pub invariant-loop-i : goal.invariant-loop-i
invariant-loop-i l =
    (l.self ≡ flat_map (λ x. 32 ∷ decimal x) (drop l.i l.values) ++ l.fn.self) × (length l.self + 21 * l.i ≤ length l.fn.self + 21 * length l.values)
