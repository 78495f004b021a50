use Rattle.std.proofs.Common.{◌≡◌, ℕ, ◌*◌, ◌%◌, ◌≤◌, ◌++◌, List, length, take}
use Rattle.oas_checksum.specs.Hashing.{HasAbsorbed}
use Rattle.oas_checksum.proofs.hash.hasher.Sha256.take_blocks.Given as goal

abbrev pub invariant-whole : goal.invariant-whole
invariant-whole l =
    (l.self.total ≡ l.fn.self.total) × (64 * l.i ≤ length l.bytes)
    × ((m : List ℕ) → length m % 64 ≡ 0 → HasAbsorbed l.fn.self m → HasAbsorbed l.self (m ++ take (64 * l.i) l.bytes))
