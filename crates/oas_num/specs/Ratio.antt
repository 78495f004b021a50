-- Fractions as two numbers, and in lowest terms.
use Rattle.std.specs.Prelude.{◌≡◌, ℕ, ◌*◌, ◌<◌}
use Rattle.std.specs.Int.{IsGcd}

-- a fraction, by its parts
pub record Ratio : Type 0 where
  pub num : ℕ
  pub den : ℕ

-- both parts are positive, and no number above 1 divides both
pub record IsLowest (f : Ratio) : Type 0 where
  pub num_some : 0 < f.num
  pub den_some : 0 < f.den
  pub coprime : IsGcd f.num f.den 1

-- f is the fraction num / den in lowest terms: both parts divided by their greatest common divisor
pub record Reduces (num den : ℕ) (f : Ratio) : Type 0 where
  pub lowest : IsLowest f
  pub same_value : f.num * den ≡ num * f.den
  pub divisor : ℕ
  pub some : 0 < divisor
  pub greatest : IsGcd num den divisor
  pub num_is : f.num * divisor ≡ num
  pub den_is : f.den * divisor ≡ den
