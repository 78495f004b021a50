-- How names of numbers are held: those of 0, 1, 2, .. in a list, and all others with their numbers.
use Rattle.std.specs.Prelude.{ℕ, ◌+◌, ◌≤◌, ◌^◌, List, [], ◌∷◌}
use Rattle.std.specs.List.{AllByRecursion}

module _ {S : Type 0} where
  -- strings with successive numbers, from this one on
  abbrev pub numbered : ℕ → List S → List (ℕ × S)
  numbered first [] = []
  numbered first (s ∷ ss) = (first, s) ∷ numbered (first + 1) ss

  -- each number is at least n
  abbrev pub AllFrom : ℕ → List (ℕ × S) → Type 0
  AllFrom n others = AllByRecursion (λ e. n ≤ e.0) others

  -- where this many names are in order, the others have none of their numbers; and there are so few that all can be counted
  pub record AreApart (count : ℕ) (others : List (ℕ × S)) : Type 0 where
    pub later : AllFrom count others
    pub few : count ≤ 2 ^ 62
