-- A record that is at hand.
use Rattle.std.specs.Prelude.{◌≤◌, ℕ, Bool, List, length, take}
use Rattle.oas_file.specs.declared.records.Found.{Found}
use Rattle.oas_file.specs.Gathering.{inner_in}

-- this many of these bytes, from the first on, spell it
pub record IsAtHand (in_end : Bool) (bytes : List ℕ) (found : Found) : Type 0 where
  pub few : found.length ≤ length bytes
  pub spelled : inner_in in_end found.record (take found.length bytes)
