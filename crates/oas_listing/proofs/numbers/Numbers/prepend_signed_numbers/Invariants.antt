use Rattle.std.proofs.Common.{◌≡◌, ◌+◌, ◌*◌, ◌≤◌, ◌∷◌, ◌++◌, length, drop, flat_map}
use Rattle.std.specs.Fmt.{signed_decimal}
use Rattle.oas_listing.proofs.numbers.Numbers.prepend_signed_numbers.Given as goal

abbrev pub invariant-loop-i : goal.invariant-loop-i
invariant-loop-i l =
    (l.self ≡ flat_map (λ x. 32 ∷ signed_decimal x) (drop l.i l.values) ++ l.fn.self) × (length l.self + 21 * l.i ≤ length l.fn.self + 21 * length l.values)
