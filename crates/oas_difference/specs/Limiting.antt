-- A sink that passes on the first lines.
use Rattle.std.specs.Prelude.{◌≡◌, ℕ, zero, suc, ◌<◌, ◌==◌, ◌||◌, ◌⊎◌, true, false, List, [], ◌∷◌, if◌then◌else◌}
use Rattle.oas_num.specs.Writing.{Puts}
use Rattle.oas_difference.specs.declared.limiting.Limited.{Limited}
use Rattle.oas_difference.specs.Limited.{first_lines, is_longer}

-- how many of n lines are left after these bytes
abbrev pub lines_left : ℕ → List ℕ → ℕ
lines_left zero bs = zero
lines_left (suc n) [] = suc n
lines_left (suc n) (b ∷ bs) = lines_left (if b == 10 then n else suc n) bs

-- Between two of its states it was given these bytes: the sink below got the first lines of them. As long as that has not
-- failed, this many lines are left, and it knows whether something was dropped.
pub record Passes {K : Type 0} (given : K → List ℕ → K → Type 0) (failures : K → ℕ) (old : Limited K) (bytes : List ℕ) (new : Limited K) : Type 0 where
  pub same_sink : new.sink.ghost_name ≡ old.sink.ghost_name
  pub puts : Puts given failures old.sink.now (first_lines old.left bytes) new.sink.now
  pub left : new.failed ≡ false → new.left ≡ lines_left old.left bytes
  pub cut : new.failed ≡ false → new.is_cut ≡ (old.is_cut || is_longer old.left bytes)
  pub fault : new.failed ≡ true → (old.failed ≡ true) ⊎ (0 < failures new.sink.now)
