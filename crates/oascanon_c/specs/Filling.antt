-- What stands in a room that is filled as far as bytes fit.
use Rattle.std.specs.Prelude.{◌≡◌, ℕ, ◌-◌, ◌^◌, min, List, ◌++◌, length}
use Rattle.oascanon_c.specs.declared.filling.Filler.{Filler}
use Rattle.oascanon_c.specs.Rooms.{filled_with}

-- it was given these bytes, and its room was so before
pub record HasPut (s : Filler) (start : List ℕ) (bytes : List ℕ) : Type 0 where
  pub filled : s.filled ≡ min (length bytes) (length start)
  pub count : s.given ≡ min (length bytes) (2 ^ 64 - 1)
  pub room : s.room.now ≡ filled_with start bytes

-- between two of its states it was given these bytes, and has the same room
pub record Fills (old : Filler) (bytes : List ℕ) (new : Filler) : Type 0 where
  pub same : new.room.ghost_name ≡ old.room.ghost_name
  pub puts : (start before : List ℕ) → HasPut old start before → HasPut new start (before ++ bytes)
