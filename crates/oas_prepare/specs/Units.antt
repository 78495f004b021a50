-- Fractions that are doubled.
use Rattle.std.specs.Prelude.{ℕ, ◌≤◌, ◌^◌}
use Rattle.oas_num.specs.Ratio.{Ratio, Reduces}

abbrev pub ratio : ℕ → ℕ → Ratio
ratio n d = record { num = n; den = d }

-- in lowest terms, the numerator isn't below 2^64
pub record IsPast (a b : ℕ) : Type 0 where
  pub lowest : Ratio
  pub reduces : Reduces a b lowest
  pub past : 2 ^ 64 ≤ lowest.num
