-- What a sink that compares was given.
use Rattle.std.specs.Prelude.{◌≡◌, ◌≢◌, ℕ, true, false, List, ◌++◌, ◌⊎◌}
use Rattle.oas_form.specs.declared.comparing.Comparer.{Comparer}

-- Between two of its states it was given these bytes: they are a prefix of what was left to compare, or it has found that
-- they are not.
pub record Compares (start : Comparer) (bytes : List ℕ) (now : Comparer) : Type 0 where
  pub same : now.differs ≡ false → (start.differs ≡ false) × (start.rest.now ≡ bytes ++ now.rest.now)
  pub other : now.differs ≡ true → (start.differs ≡ true) ⊎ ((more : List ℕ) → start.rest.now ≢ bytes ++ more)
