-- How much a layout may hold.
use Rattle.std.specs.Prelude.{◌≡◌, ℕ, ◌+◌, ◌*◌, ◌^◌, ◌≤◌}
use Rattle.oas_elements.specs.declared.limits.Limits.{Limits}

-- there are such limits: this many elements, this weight, and enough input for every canonical file of that weight
pub record IsLimits (elements weight input : ℕ) : Type 0 where
  pub few : elements ≤ 2 ^ 26
  pub light : weight ≤ 2 ^ 30
  pub room : 320 + 64 * weight ≤ input
  pub short : input ≤ 2 ^ 38

-- these are the limits
pub record AreLimits (limits : Limits) (elements weight input : ℕ) : Type 0 where
  pub elements_are : limits.elements ≡ elements
  pub weight_is : limits.weight ≡ weight
  pub input_is : limits.input ≡ input
